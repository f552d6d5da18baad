-- A row that arrives hands over nothing at each section but the last, and the unit there: what is handed over is told by the answer.
use Rattle.std.proofs.Math.Decide.{dec_lt}
use Rattle.std.proofs.Math.ListN.{get_or-append}
use Rattle.std.proofs.lemmas.List.{get_or-replicate, length-map, length-replicate, get_or_at}
use Rattle.std.proofs.Common.{ℕ, zero, suc, ◌+◌, ◌-◌, ◌<◌, arith, ◌≡◌, refl, ap, sym, ◌∙◌, List, [], ◌∷◌, ◌++◌, map, get_or, length, length-append, replicate, take, ext_get_or}
use Rattle.rules.specs.declared.Settings.{Settings}
use Rattle.rules.specs.Demand2.{answer_at, Arrives}
use Rattle.rules.specs.Row.{after, datagram, Event, fresh, gap, Handed, handed_by, handed_over, Held, next, nothing, section}
use Rattle.rules.specs.Step.{Outcome, step_of}

-- what is handed over at each event of a row
unfoldable pub handed_row : Settings → Held → List Event → List Handed
handed_row c h [] = []
handed_row c h (e ∷ r) = handed_over c h e ∷ handed_row c (next c h e) r

handed_length : (c : Settings) (h : Held) (r : List Event) → length (handed_row c h r) ≡ length r
unfolding handed_row
handed_length c h [] = refl
handed_length c h (e ∷ r) = ap suc (handed_length c (next c h e) r)

-- at event i, by what is held after those before it
handed_at : (c : Settings) (h : Held) (r : List Event) (i : ℕ) → i < length r
    → get_or (handed_row c h r) i nothing ≡ handed_over c (after c h (take i r)) (get_or r i gap)
unfolding handed_row after
handed_at c h [] i l = absurd (omega arith)
handed_at c h (e ∷ r) zero l = refl
handed_at c h (e ∷ r) (suc i) l = handed_at c (next c h e) r i (omega arith)

section_at : (xs : List (List ℕ)) (i : ℕ) → i < length xs → get_or (map section xs) i gap ≡ section (get_or xs i [])
section_at [] i l = absurd (omega arith)
section_at (s ∷ xs) zero l = refl
section_at (s ∷ xs) (suc i) l = section_at xs i (omega arith)

take_sections : (xs : List (List ℕ)) (i : ℕ) → take i (map section xs) ≡ map section (take i xs)
take_sections xs zero = refl
take_sections [] (suc i) = refl
take_sections (s ∷ xs) (suc i) = ap (λ (l : List Event). section s ∷ l) (take_sections xs i)

-- what is held after the last section is what its step leaves
after_last : (c : Settings) (h : Held) (xs : List (List ℕ)) (i : ℕ) → i + 1 ≡ length xs
    → after c h (map section xs) ≡ next c (after c h (map section (take i xs))) (section (get_or xs i []))
unfolding after
after_last c h [] i e = absurd (omega arith)
after_last c h (s ∷ []) zero e = refl
after_last c h (s ∷ t ∷ xs) zero e = absurd (omega arith)
after_last c h (s ∷ xs) (suc i) e = after_last c (next c h (section s)) xs i (omega arith)

module _ (c : Settings) (b : List ℕ) (xs : List (List ℕ)) (u : List ℕ) (a : Arrives c b xs u) (some : 0 < length xs) where
  abbrev row : List Event
  row = map section xs

  abbrev held : ℕ → Held
  held i = after c (fresh b) (map section (take i xs))

  abbrev out : ℕ → Outcome
  out i = step_of c (held i).state (get_or xs i []) (held i).buffer

  at_section : (i : ℕ) → i < length xs → get_or (handed_row c (fresh b) row) i nothing ≡ handed_by (answer_at c b xs i) (out i).buffer
  unfolding handed_over answer_at
  at_section i l =
      handed_at c (fresh b) row i (omega (arith, length-map xs section)) ∙ rw (take_sections xs i, section_at xs i l)

  before : (i : ℕ) → i + 1 < length xs → get_or (handed_row c (fresh b) row) i nothing ≡ nothing
  unfolding handed_by
  before i l = at_section i (omega arith) ∙ rw (a.stored i l)

  at_last : (i : ℕ) → i + 1 ≡ length xs → get_or (handed_row c (fresh b) row) i nothing ≡ datagram (length u) u
  unfolding handed_by next
  at_last i l =
      let buffer : (after c (fresh b) row).buffer ≡ (out i).buffer = ap (λ (h : Held). h.buffer) (after_last c (fresh b) xs i l) in
      at_section i (omega arith) ∙ rw (a.delivered i l) (ap (datagram (length u)) (ap (take (length u)) (sym buffer) ∙ a.unit))

  pub arrives_handed : handed_row c (fresh b) row ≡ replicate (length (handed_row c (fresh b) row) - 1) nothing ++ (datagram (length u) u ∷ [])
  arrives_handed = ext_get_or nothing (handed_row c (fresh b) row) _ (omega (arith, size, many, length-append (replicate k nothing) end)) go
    where
      end : List Handed
      end = datagram (length u) u ∷ []

      k : ℕ
      k = length (handed_row c (fresh b) row) - 1

      size : length (handed_row c (fresh b) row) ≡ length xs
      size = handed_length c (fresh b) row ∙ length-map xs section

      many : length (replicate k nothing) ≡ k
      many = length-replicate k nothing

      go : (i : ℕ) → i < length (handed_row c (fresh b) row) → get_or (handed_row c (fresh b) row) i nothing ≡ get_or (replicate k nothing ++ end) i nothing
      go i l = by (dec_lt (i + 1) (length xs))
        where
          by : Dec (i + 1 < length xs) → get_or (handed_row c (fresh b) row) i nothing ≡ get_or (replicate k nothing ++ end) i nothing
          by (yes h) =
              let m : i < k = omega (arith, size) in
              before i h ∙ sym (get_or-append (replicate k nothing) end nothing i (omega (arith, many)) ∙ get_or-replicate k i nothing nothing m)
          by (no h) =
              let m : k ≡ i = omega (arith, size) in
              at_last i (omega (arith, size)) ∙ sym (get_or_at (replicate k nothing) (datagram (length u) u) [] nothing i (many ∙ m))
