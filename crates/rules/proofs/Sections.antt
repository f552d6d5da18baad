-- Each section that a sender writes is what table 3 writes for its piece of the unit, with ones in the reserved bits.
use Rattle.std.proofs.Math.Decide.{dec_lt}
use mathlib.Core.List.{flatten}
use Rattle.std.proofs.Math.ListN.{get_or-append}
use Rattle.std.proofs.Math.Seq.{get_or-append_seam}
use Rattle.std.proofs.lemmas.List.{get_or_at, length_push, map_push}
use Rattle.std.proofs.Common.{ℕ, zero, suc, ◌+◌, ◌*◌, ◌-◌, ◌≤◌, ◌<◌, suc-mul, zero-mul, arith, ◌≡◌, refl, ap, sym, ◌∙◌, Bool, List, [], ◌∷◌, ◌++◌, append_assoc, append-nil, map, get_or, length, length-append, length-drop, length-take, take}
use Rattle.rules.specs.declared.Settings.{Settings}
use Rattle.rules.specs.Demand2.{Sections, SectionSent}
use Rattle.rules.specs.Demand3.{joined}
use Rattle.rules.specs.Send.{piece, section_at, section_count, sections, sections_to}
use Rattle.rules.specs.Sound.{table3, Values}
use Rattle.rules.proofs.Send.{count_needed, count_some, cut, pieces_all, pieces_more}
use Rattle.rules.proofs.Written.{sent, sent_is}

joined_more : (vs : List Values) (v : Values) → joined (vs ++ (v ∷ [])) ≡ joined vs ++ v.payload
unfolding joined
joined_more [] v = append-nil v.payload
joined_more (w ∷ vs) v = rw (joined_more vs v, append_assoc)

module _ (c : Settings) (llc_snap : Bool) (n : ℕ) (u : List ℕ) where
  abbrev count : ℕ
  count = section_count n u

  abbrev value : ℕ → Values
  value i = sent c.address llc_snap i (count - 1) (piece n u i)

  unfoldable values_to : ℕ → List Values
  values_to zero = []
  values_to (suc k) = values_to k ++ (value k ∷ [])

  values_length : (k : ℕ) → length (values_to k) ≡ k
  unfolding values_to
  values_length zero = refl
  values_length (suc k) = length_push (values_to k) (value k) ∙ omega (arith, values_length k)

  values_at : (k i : ℕ) → i < k → get_or (values_to k) i (value 0) ≡ value i
  unfolding values_to
  values_at zero i h = absurd (omega arith)
  values_at (suc k) i h = go (values_at k i) (dec_lt i k)
    where
      go : (i < k → get_or (values_to k) i (value 0) ≡ value i) → Dec (i < k) → get_or (values_to k ++ (value k ∷ [])) i (value 0) ≡ value i
      go f (yes l) = get_or-append (values_to k) (value k ∷ []) (value 0) i (omega (arith, values_length k)) ∙ f l
      go f (no l) =
          let is : k ≡ i = omega arith in
          get_or_at (values_to k) (value k) [] (value 0) i (values_length k ∙ is) ∙ ap value is

  values_written : (k : ℕ) → map table3 (values_to k) ≡ sections_to c llc_snap n u k
  unfolding values_to sections_to section_at
  values_written zero = refl
  values_written (suc k) =
      rw (map_push table3 (values_to k) (value k), values_written k, sent_is c.address llc_snap k (count - 1) (piece n u k))

  values_joined : (k : ℕ) → joined (values_to k) ≡ take (k * n) u
  unfolding values_to joined
  values_joined zero = rw (zero-mul n)
  values_joined (suc k) = rw (joined_more (values_to k) (value k), values_joined k) (pieces_more n u k)

  sections_written : map table3 (values_to count) ≡ sections c llc_snap n u
  unfolding sections
  sections_written = values_written count

  -- a piece before the last has all of its bytes, since the next one begins within the unit
  full : 0 < n → (i : ℕ) → i + 1 < count → length (piece n u i) ≡ n
  unfolding piece
  full some i h =
      let next : suc i * n ≤ length u = count_needed n u some (suc i) (omega arith) in
      let step : suc i * n ≡ i * n + n = suc-mul i n in
      simp length-take (omega (arith, length-drop (i * n) u))

  pub sections_sent : 0 < n → (bytes : List ℕ) → bytes ≡ flatten (sections c llc_snap n u) → Sections c llc_snap n u bytes
  sections_sent some bytes e =
      record {
        values = values_to count;
        cut = rw (values_length count) (cut n u some);
        each = each;
        unit = values_joined count ∙ pieces_all n u some;
        is = e ∙ ap flatten (sym sections_written);
      }
    where
      each : (front back : List Values) (v : Values) → values_to count ≡ front ++ (v ∷ back)
          → SectionSent c llc_snap n (length (values_to count)) (length front) v
      each front back v p =
          let i : ℕ = length front in
          let h : i < count = omega (arith, values_length count, ap length p, length-append front (v ∷ back)) in
          let is : value i ≡ v =
          sym (values_at count i h) ∙ ap (λ (l : List Values). get_or l i (value 0)) p ∙ get_or-append_seam front v back (value 0) in
          rw (values_length count, ← is)
          (record {
            address = refl;
            clear = refl;
            flagged = refl;
            numbered = refl;
            ending = omega (arith, count_some n u);
            reserved1 = refl;
            reserved5 = refl;
            full = full some i;
          })

  -- and one by one they are the sections
  pub sections_are : (some : 0 < n) (bytes : List ℕ) (e : bytes ≡ flatten (sections c llc_snap n u))
      → map table3 (sections_sent some bytes e).values ≡ sections c llc_snap n u
  unfolding sections_sent
  sections_are some bytes e = sections_written
