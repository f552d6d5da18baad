-- A header says one length at most, so the rule's tests find an end exactly where the joined payloads begin with a datagram.
use Rattle.std.proofs.lemmas.Option.{none-some, same_Some}
use Rattle.std.proofs.lemmas.Bool.{false≢true, eqb-false}
use Rattle.std.proofs.Common.{Decides, ℕ, ◌+◌, ◌≤◌, arith, ◌≡◌, refl, ap, subst, sym, ◌∙◌, ◌↔◌, inl, inr, ⊎_elim, List, Bool, true, false, not, length, eqb, leb, eq-eqb, eqb-true, leb-false, leb-true, Option, Some, None}
use Rattle.wire.specs.Bytes.{bits, byte_at, number_at}
use Rattle.wire.specs.Choice.{both, pick}
use Rattle.rules.specs.UnitEnd.{BeginsWith, datagram_end, ends_at, end_within, NoDatagram, NotOneDatagram, payload_length, Says, total_length, unit_end, UnitLength, version}

-- ---- ends
-- the joined payloads are no unit
unfoldable pub endless : Option ℕ → Bool
endless (Some n) = false
endless None = true

-- ---- what a header says
module _ (p : List ℕ) where
  one_says : (h m k n : ℕ) → Says p h m → Says p k n → (h ≡ k) × (m ≡ n)
  one_says h m k n (inl a) (inl b) = (a.1 ∙ sym b.1, a.2 ∙ sym b.2)
  one_says h m k n (inl a) (inr b) = absurd (omega (arith, a.0, b.0))
  one_says h m k n (inr a) (inl b) = absurd (omega (arith, a.0, b.0))
  one_says h m k n (inr a) (inr b) = (a.1 ∙ sym b.1, a.2 ∙ sym b.2)

  -- no header has fewer than 20 bytes, and its version is 4 or 6
  some : (h n : ℕ) → Says p h n → 20 ≤ h
  some h n (inl a) = omega (arith, a.1)
  some h n (inr a) = omega (arith, a.1)

  of_version : (h n : ℕ) → Says p h n → ¬ ((bits 7 4 (byte_at p 0) ≡ 4 → ⊥) × (bits 7 4 (byte_at p 0) ≡ 6 → ⊥))
  of_version h n (inl a) w = w.0 a.0
  of_version h n (inr a) w = w.1 a.0

  pub begins_one : (m n : ℕ) → BeginsWith p m → BeginsWith p n → m ≡ n
  begins_one m n a b = (one_says a.header m b.header n a.says b.says).1

  begins_not : (n : ℕ) → BeginsWith p n → ¬ NoDatagram p
  begins_not n w (inl z) = omega (arith, z, w.least, w.most, some w.header n w.says)
  begins_not n w (inr (inl v)) = of_version w.header n w.says v
  begins_not n w (inr (inr (h, m, says, cases))) =
      let same = one_says h m w.header n says w.says in
      ⊎_elim (λ l. omega (arith, l, same.0, w.least, w.most))
      (⊎_elim (λ l. omega (arith, l, same.0, same.1, w.least)) (λ l. omega (arith, l, same.1, w.most))) cases

  -- ---- what the rule finds
  pub data Found : Option ℕ → Type 0 where
    begins : {n : ℕ} → BeginsWith p n → Found (Some n)
    none : NoDatagram p → Found None

  within : (h n : ℕ) → Says p h n → Found (end_within (length p) h n)
  unfolding end_within pick both
  within h n says = go (leb h n) refl (leb n (length p)) refl
    where
      go : (t : Bool) → leb h n ≡ t → (u : Bool) → leb n (length p) ≡ u → Found (pick (both t u) (Some n) None)
      go true e true l = begins (record { header = h; says = says; least = leb-true _ _ e; most = leb-true _ _ l })
      go true e false l = none (inr (inr (h, n, says, inr (inr (leb-false _ _ l)))))
      go false e u l = none (inr (inr (h, n, says, inr (inl (leb-false _ _ e)))))

  found : Found (datagram_end p)
  unfolding datagram_end pick version total_length payload_length
  found = go (eqb (bits 7 4 (byte_at p 0)) 4) refl (eqb (bits 7 4 (byte_at p 0)) 6) refl
    where
      go : (t : Bool) → eqb (bits 7 4 (byte_at p 0)) 4 ≡ t → (u : Bool) → eqb (bits 7 4 (byte_at p 0)) 6 ≡ u
          → Found (pick t (end_within (length p) 20 (number_at 2 p 2)) (pick u (end_within (length p) 40 (40 + number_at 2 p 4)) None))
      go true e u f = within 20 (number_at 2 p 2) (inl (eqb-true _ _ e, refl, refl))
      go false e true f = within 40 (40 + number_at 2 p 4) (inr (eqb-true _ _ f, refl, refl))
      go false e false f = none (inr (inl (eqb-false _ _ e, eqb-false _ _ f)))

  at_begins : {e : Option ℕ} (n : ℕ) → Found e → (e ≡ Some n) ↔ BeginsWith p n
  at_begins n (begins {n = m} w) =
      (λ q. subst (BeginsWith p) (same_Some _ _ q) w, λ v. ap Some (begins_one m n w v))
  at_begins n (none w) = (λ q. absurd (none-some _ q), λ v. absurd (begins_not n v w))

  endless_tells : {e : Option ℕ} → Found e → Decides (endless e) (NoDatagram p)
  unfolding endless
  endless_tells (begins {n = n} w) = (λ q. absurd (false≢true q), λ v. absurd (begins_not n w v))
  endless_tells (none w) = (λ _. w, λ _. refl)

  not_tells : {e : Option ℕ} → Found e → Decides (not (ends_at (length p) e)) (NotOneDatagram p)
  unfolding ends_at
  not_tells (begins {n = n} w) = go (eqb n (length p)) refl
    where
      go : (t : Bool) → eqb n (length p) ≡ t → Decides (not t) (NotOneDatagram p)
      go true e = (λ q. absurd (false≢true q), λ v. absurd (one v))
        where
          one : NotOneDatagram p → ⊥
          one (inl v) = begins_not n w v
          one (inr (h, m, says, l)) = omega (arith, l, eqb-true n (length p) e, (one_says h m w.header n says w.says).1)
      go false e =
          let other : n ≡ length p → ⊥ = eqb-false _ _ e in
          (λ _. inr (w.header, n, w.says, omega (arith, w.most)), λ _. refl)
  not_tells (none w) = (λ _. inl w, λ _. refl)

-- ---- with the flag, or without it
pub unit_ends : (llc_snap : Bool) (p : List ℕ) (n : ℕ) → (unit_end llc_snap p ≡ Some n) ↔ UnitLength llc_snap p n
unfolding unit_end UnitLength pick
unit_ends true p n = (λ q. sym (same_Some _ _ q), λ e. ap Some (sym e))
unit_ends false p n = at_begins p n (found p)

-- a unit is no longer than the joined payloads
pub end_within_is : (llc_snap : Bool) (p : List ℕ) (n : ℕ) → unit_end llc_snap p ≡ Some n → n ≤ length p
unfolding UnitLength
end_within_is true p n q = omega (arith, (unit_ends true p n).0 q)
end_within_is false p n q = ((unit_ends false p n).0 q).most

-- 25, and 54
pub unit_endless : (llc_snap : Bool) (p : List ℕ) → Decides (endless (unit_end llc_snap p)) ((llc_snap ≡ false) × NoDatagram p)
unfolding unit_end endless pick
unit_endless true p = (λ q. absurd (false≢true q), λ w. absurd (false≢true (sym w.0)))
unit_endless false p = let t = endless_tells p (found p) in (λ q. (refl, t.0 q), λ w. t.1 w.1)

pub unit_not_one : (llc_snap : Bool) (p : List ℕ) → Decides (not (ends_at (length p) (unit_end llc_snap p))) ((llc_snap ≡ false) × NotOneDatagram p)
unfolding unit_end ends_at pick
unit_not_one true p =
    (λ q. absurd (false≢true (rw (eq-eqb (length p) (length p) refl) at q)), λ w. absurd (false≢true (sym w.0)))
unit_not_one false p = let t = not_tells p (found p) in (λ q. (refl, t.0 q), λ w. t.1 w.1)

-- where 54 does not apply, the unit ends where its bytes do
pub ends_at_is : (n : ℕ) (e : Option ℕ) → ends_at n e ≡ true → e ≡ Some n
unfolding ends_at
ends_at_is n (Some m) q = ap Some (eqb-true m n q)
ends_at_is n None q = absurd (false≢true q)
