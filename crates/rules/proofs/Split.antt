-- Request 2 put one row before another, which kept the rest of what it meant: a table's answer changes there and nowhere else.
use Rattle.std.proofs.Common.{ℕ, arith, ◌≡◌, refl, sym, subst, ◌∙◌, ◌↔◌, ◌≢◌, ◌⊎◌, inl, inr, ⊎_elim, List, [], ◌∷◌}
use Rattle.wire.specs.Meaning.{FirstThat, otherwise, Row, ◌means◌}
use Rattle.rules.specs.Meaning.{FifteenSplits, InChecksumForm}
use Rattle.rules.proofs.Meaning.{check_means, indicated}

module _ (c : Type 0) where
  -- n is m, but 24 where m is 15 and c holds
  abbrev Became : ℕ → ℕ → Type 0
  Became m n = FirstThat n (24 means ((m ≡ 15) × c) ∷ m means otherwise ∷ [])

  stays : (n : ℕ) → ((n ≡ 15) × c → ⊥) → Became n n
  unfolding FirstThat
  stays n h = inr (h, inl (refl, tt))

  becomes : (m n : ℕ) → m ≡ 15 → c → Became m n → n ≡ 24
  unfolding FirstThat
  becomes m n e h (inl w) = w.0
  becomes m n e h (inr w) = absurd (w.0 (e, h))

  stayed : (m n : ℕ) → ((m ≡ 15) × c → ⊥) → Became m n → n ≡ m
  unfolding FirstThat
  stayed m n h (inl w) = absurd (h w.1)
  stayed m n h (inr (_, inl w)) = w.0
  stayed m n h (inr (_, inr w)) = absurd w.1

  -- the table of these rows answers what that of the old rows did, but for this
  pub record Splits (rows old : List Row) : Type 0 where
    pub exactly : (n : ℕ) → FirstThat n rows ↔ ((m : ℕ) × FirstThat m old × Became m n)

  -- a row that both have, with another number than 15
  splits_past : {rows old : List Row} (k : ℕ) (p : Type 0) → k ≢ 15 → Splits rows old → Splits (k means p ∷ rows) (k means p ∷ old)
  unfolding FirstThat
  splits_past {rows} {old} k p other s = record { exactly = λ n. (there n, λ w. back n w.0 w.1 w.2) }
    where
      there : (n : ℕ) → FirstThat n (k means p ∷ rows) → (m : ℕ) × FirstThat m (k means p ∷ old) × Became m n
      there n (inl w) = (n, inl w, stays n (λ x. other (sym w.0 ∙ x.0)))
      there n (inr w) = let r = (s.exactly n).0 w.1 in (r.0, inr (w.0, r.1), r.2)

      back : (n m : ℕ) → FirstThat m (k means p ∷ old) → Became m n → FirstThat n (k means p ∷ rows)
      back n m (inl w) b = inl (stayed m n (λ x. other (sym w.0 ∙ x.0)) b ∙ w.0, w.1)
      back n m (inr w) b = inr (w.0, (s.exactly n).1 (m, w.1, b))

  -- the row of 15 that is split: o is c or e, and not both
  splits_here : {o e : Type 0} (rest : List Row) → o ↔ (c ⊎ e) → (e → c → ⊥)
      → Splits (24 means c ∷ 15 means e ∷ rest) (15 means o ∷ rest)
  unfolding FirstThat
  splits_here {o} {e} rest split apart = record { exactly = λ n. (there n, λ w. back n w.0 w.1 w.2) }
    where
      there : (n : ℕ) → FirstThat n (24 means c ∷ 15 means e ∷ rest) → (m : ℕ) × FirstThat m (15 means o ∷ rest) × Became m n
      there n (inl w) = (15, inl (refl, split.1 (inl w.1)), inl (w.0, (refl, w.1)))
      there n (inr (h, inl w)) = (n, inl (w.0, split.1 (inr w.1)), stays n (λ x. h x.1))
      there n (inr (h, inr w)) = (n, inr (λ x. ⊎_elim h w.0 (split.0 x), w.1), stays n (λ x. h x.1))

      back : (n m : ℕ) → FirstThat m (15 means o ∷ rest) → Became m n → FirstThat n (24 means c ∷ 15 means e ∷ rest)
      back n m (inl w) b =
          ⊎_elim
          (λ h. inl (becomes m n w.0 h b, h))
          (λ h. inr (apart h, inl (stayed m n (λ x. apart h x.1) b ∙ w.0, h)))
          (split.0 w.1)
      back n m (inr w) b =
          let same : n ≡ m = stayed m n (λ x. w.0 (split.1 (inl x.1))) b in
          inr (λ h. w.0 (split.1 (inl h)), inr (λ h. w.0 (split.1 (inr h)), subst (λ (k : ℕ). FirstThat k rest) (sym same) w.1))

pub fifteen_splits : FifteenSplits
fifteen_splits s n =
    let c : Type 0 = InChecksumForm s in
    let split =
    splits_past c 12 _ (λ e. omega (arith, e))
    (splits_past c 13 _ (λ e. omega (arith, e))
    (splits_past c 14 _ (λ e. omega (arith, e)) (splits_here c _ (indicated s) (λ e w. omega (arith, w.0, w.1))))) in
    (λ e. (split.exactly n).0 ((check_means s n).0 e), λ w. (check_means s n).1 ((split.exactly n).1 w))
