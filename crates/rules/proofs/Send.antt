-- Pieces of n bytes are cut off the front until nothing is left, so the first k of them are the unit's first k * n bytes.
use Rattle.std.proofs.Math.Nat.{le-max_right, lt-div-mul-add}
use Rattle.std.proofs.Math.Decide.{dec_le, dec_lt, ℕ_discrete}
use mathlib.Core.List.{flatten}
use Rattle.std.proofs.lemmas.Bool.{not-false}
use Rattle.std.proofs.lemmas.List.{get_or_at, take-append-le, length_push}
use Rattle.std.proofs.Common.{ℕ, zero, suc, ◌+◌, ◌*◌, ◌-◌, ◌/◌, ◌≤◌, ◌<◌, max, div-mul-le_self, le_refl, mul-le-mul_right, suc-mul, zero-mul, arith, ◌≡◌, refl, ap, sym, ◌∙◌, Bool, List, [], ◌∷◌, ◌++◌, append_assoc, append-nil, length, get_or, take, drop, length-append, length-take, length-drop, drop_of_length-le, drop-drop, get_or-take, take-add, take_all, take_at, eq-eqb, ne_eqb, leb-true, ltb-false, Some}
use Rattle.wire.specs.Bytes.{over}
use Rattle.wire.specs.Choice.{pick, first_of}
use Rattle.rules.specs.declared.Address.{Address}
use Rattle.rules.specs.declared.Settings.{Settings}
use Rattle.rules.specs.Answers.{Sent, Unsent}
use Rattle.rules.specs.Section.{header, section_of}
use Rattle.rules.specs.Meaning.{CutInto, Good}
use Rattle.rules.proofs.Tested.{joined}
use Rattle.rules.specs.Send.{piece, section_at, section_count, sections, sections_to, sending_length, sending_number, send_lines, SendOutcome, sent_of, written}
use Rattle.rules.specs.UnitEnd.{unit_end}
use Rattle.rules.proofs.Runs.{joined_more}
use Rattle.wire.proofs.Choice.{both_true, none_first}
use Rattle.rules.proofs.Good.{good_is}
use Rattle.rules.proofs.UnitEnd.{ends_at_is}
use Rattle.rules.proofs.Written.{sealed_length, Written, written_is_read}

-- ---- what is accepted
-- none of 10 and 50 to 54 applies
pub record Accepted (c : Settings) (llc_snap : Bool) (size : ℕ) (u out : List ℕ) : Type 0 where
  pub settings : Good c
  pub some : 1 ≤ size
  pub most : size ≤ 4080
  pub unit : length u ≤ 65535
  pub ends : unit_end llc_snap u ≡ Some (length u)
  pub limit : section_count size u ≤ c.limit
  pub room : length (flatten (sections c llc_snap size u)) ≤ length out

-- the numbers of its sections are bytes
pub count_byte : {c : Settings} {llc_snap : Bool} {n : ℕ} {u out : List ℕ} → Accepted c llc_snap n u out → section_count n u ≤ 255
count_byte a = omega (arith, a.limit, a.settings.limit255)

module _ (c : Settings) (llc_snap : Bool) (n : ℕ) (u out : List ℕ) where
  pub accepted : first_of (send_lines c llc_snap n u out) ≡ 0 → Accepted c llc_snap n u out
  unfolding send_lines
  accepted p =
      let t10 = none_first _ _ (omega arith) p in
      let t50 = none_first _ _ (omega arith) t10.1 in
      let t51 = none_first _ _ (omega arith) t50.1 in
      let t54 = none_first _ _ (omega arith) t51.1 in
      let t52 = none_first _ _ (omega arith) t54.1 in
      let t53 = none_first _ _ (omega arith) t52.1 in
      let size = both_true _ _ (not-false _ t50.0) in
      record {
        settings = (good_is c).0 (not-false _ t10.0);
        some = leb-true _ _ size.0;
        most = leb-true _ _ size.1;
        unit = ltb-false _ _ t51.0;
        ends = ends_at_is (length u) (unit_end llc_snap u) (not-false _ t54.0);
        limit = ltb-false _ _ t52.0;
        room = ltb-false _ _ t53.0;
      }

  -- ---- the outcome
  pub unsent_is : (first_of (send_lines c llc_snap n u out) ≡ 0 → ⊥)
      → sent_of c llc_snap n u out ≡ record { sending = Unsent (first_of (send_lines c llc_snap n u out)); output = out }
  unfolding sent_of pick
  unsent_is h = rw (ne_eqb _ 0 h)

  pub sent_is : first_of (send_lines c llc_snap n u out) ≡ 0 → sent_of c llc_snap n u out ≡ written c llc_snap n u out
  unfolding sent_of pick
  sent_is h = rw (eq-eqb _ 0 h)

  -- the number 0 is sent-all only with what is sent
  pub sent_by_number : sending_number (sent_of c llc_snap n u out).sending ≡ 0
      → (sent_of c llc_snap n u out).sending ≡ Sent (sending_length (sent_of c llc_snap n u out).sending)
  unfolding written sending_number sending_length
  sent_by_number h = go (ℕ_discrete (first_of (send_lines c llc_snap n u out)) 0)
    where
      go : Dec (first_of (send_lines c llc_snap n u out) ≡ 0)
          → (sent_of c llc_snap n u out).sending ≡ Sent (sending_length (sent_of c llc_snap n u out).sending)
      go (yes q) = rw (sent_is q)
      go (no q) = absurd (q (rw (unsent_is q) at h))

  -- ---- what a sender that refuses nothing gives
  pub record SentAll (m : ℕ) : Type 0 where
    pub accepted : Accepted c llc_snap n u out
    pub size : m ≡ length (flatten (sections c llc_snap n u))
    pub output : (sent_of c llc_snap n u out).output ≡ over (flatten (sections c llc_snap n u)) out

  pub sent_all : (m : ℕ) → (sent_of c llc_snap n u out).sending ≡ Sent m → SentAll m
  unfolding written
  sent_all m p = go (ℕ_discrete (first_of (send_lines c llc_snap n u out)) 0)
    where
      go : Dec (first_of (send_lines c llc_snap n u out) ≡ 0) → SentAll m
      go (yes q) =
          let size : Sent (length (flatten (sections c llc_snap n u))) ≡ Sent m = rw (sent_is q) at p in
          record { accepted = accepted q; size = cc; output = ap (λ (o : SendOutcome). o.output) (sent_is q) }
      go (no q) = let other = rw (unsent_is q) at p in cc

  -- the m bytes sent-all are within the output
  pub sent_all_fits : (m : ℕ) → (sent_of c llc_snap n u out).sending ≡ Sent m → m ≤ length out
  sent_all_fits m p = let g = sent_all m p in omega (arith, g.size, g.accepted.room)

  -- the m bytes sent-all are the sections
  pub sent_all_bytes : (m : ℕ) → SentAll m → take m (sent_of c llc_snap n u out).output ≡ flatten (sections c llc_snap n u)
  sent_all_bytes m g =
      let bytes : List ℕ = flatten (sections c llc_snap n u) in
      rw (g.output, take_all (length out) bytes g.accepted.room) (take_at bytes (drop (length bytes) out) m (sym g.size))

-- ---- how many sections
pub count_some : (n : ℕ) (u : List ℕ) → 0 < section_count n u
unfolding section_count
count_some n u = omega arith

module _ (n : ℕ) (u : List ℕ) (some : 0 < n) where
  -- so many pieces hold the unit
  pub count_covers : length u ≤ section_count n u * n
  unfolding section_count
  count_covers =
      let q : ℕ = (length u + (n - 1)) / n in
      let below : length u + (n - 1) < q * n + n = lt-div-mul-add some in
      let more : q * n ≤ max 1 q * n = mul-le-mul_right n (le-max_right 1 q) in
      omega arith

  -- and each of them begins within it
  pub count_needed : (k : ℕ) → k < section_count n u → k * n ≤ length u
  unfolding section_count
  count_needed zero h = rw (zero-mul n) (omega arith)
  count_needed (suc k) h =
      let q : ℕ = (length u + (n - 1)) / n in
      let within : q * n ≤ length u + (n - 1) = div-mul-le_self _ n in
      let next : suc (suc k) ≤ q = omega arith in
      let more : suc (suc k) * n ≤ q * n = mul-le-mul_right n next in
      let step : suc (suc k) * n ≡ suc k * n + n = suc-mul (suc k) n in
      omega arith

  -- ---- it is cut into so many
  -- fewer sections do not hold the unit
  pub fewest : (j : ℕ) → 1 ≤ j → length u ≤ j * n → section_count n u ≤ j
  unfolding section_count
  fewest j h l = go (dec_le (section_count n u) j)
    where
      go : Dec (section_count n u ≤ j) → section_count n u ≤ j
      go (yes m) = m
      go (no m) =
          let q : ℕ = (length u + (n - 1)) / n in
          let within : q * n ≤ length u + (n - 1) = div-mul-le_self _ n in
          let next : suc j ≤ q = omega arith in
          let more : suc j * n ≤ q * n = mul-le-mul_right n next in
          let step : suc j * n ≡ j * n + n = suc-mul j n in
          absurd (omega arith)

  pub cut : CutInto n u (section_count n u)
  cut = record { some = count_some n u; holds = count_covers; fewest = fewest }

  pub one_cut : (k : ℕ) → CutInto n u k → k ≡ section_count n u
  one_cut k w =
      let down : k ≤ section_count n u = w.fewest (section_count n u) cut.some cut.holds in
      let up : section_count n u ≤ k = fewest k w.some w.holds in
      omega arith

-- ---- the pieces
pub piece_small : (n : ℕ) (u : List ℕ) (i : ℕ) → length (piece n u i) ≤ n
unfolding piece
piece_small n u i = simp length-take (omega arith)

pub pieces_more : (n : ℕ) (u : List ℕ) (k : ℕ) → take (k * n) u ++ piece n u k ≡ take (suc k * n) u
unfolding piece
pieces_more n u k = rw (suc-mul k n) (sym (take-add (k * n) n u))

-- all pieces are the whole unit
pub pieces_all : (n : ℕ) (u : List ℕ) → 0 < n → take (section_count n u * n) u ≡ u
pieces_all n u some = take_all (section_count n u * n) u (count_covers n u some)

-- ---- the sections
pub section_size : (a : Address) (llc_snap : Bool) (number last : ℕ) (p : List ℕ)
    → length (section_of a llc_snap number last p) ≡ length p + 16
unfolding section_of header
section_size a llc_snap number last p = sealed_length (header a llc_snap number last (length p + 13) ++ p) ∙ omega arith

flatten_more : (xs : List (List ℕ)) (s : List ℕ) → flatten (xs ++ (s ∷ [])) ≡ flatten xs ++ s
unfolding flatten
flatten_more [] s = append-nil s
flatten_more (x ∷ xs) s = rw (flatten_more xs s, append_assoc)

module _ (c : Settings) (llc_snap : Bool) (n : ℕ) (u : List ℕ) where
  pub bytes_more : (k : ℕ) → flatten (sections_to c llc_snap n u (suc k)) ≡ flatten (sections_to c llc_snap n u k) ++ section_at c llc_snap n u k
  unfolding sections_to
  bytes_more k = flatten_more (sections_to c llc_snap n u k) (section_at c llc_snap n u k)

  -- what k sections and the unit after them have: the unit's bytes, and 16 more for each
  pub bytes_to : (k : ℕ) → length (flatten (sections_to c llc_snap n u k)) + length (drop (k * n) u) ≡ length u + 16 * k
  unfolding sections_to flatten section_at piece
  bytes_to zero = rw (zero-mul n) (omega arith)
  bytes_to (suc k) =
      rw (bytes_more k, suc-mul k n, ← drop-drop n (k * n) u, length-append, section_size, length-take)
      (omega (arith, bytes_to k, length-drop n (drop (k * n) u)))

  -- the total length
  pub sections_bytes : 0 < n → length (flatten (sections c llc_snap n u)) ≡ length u + 16 * section_count n u
  unfolding sections
  sections_bytes some =
      let none : drop (section_count n u * n) u ≡ [] = drop_of_length-le u (count_covers n u some) in
      omega (arith, bytes_to (section_count n u), ap length none)

  -- ---- each section by its number
  pub sections_length : (k : ℕ) → length (sections_to c llc_snap n u k) ≡ k
  unfolding sections_to
  sections_length zero = refl
  sections_length (suc k) = length_push (sections_to c llc_snap n u k) (section_at c llc_snap n u k) ∙ omega (arith, sections_length k)

  -- the first i of them
  pub sections_take : (k i : ℕ) → i ≤ k → take i (sections_to c llc_snap n u k) ≡ sections_to c llc_snap n u i
  unfolding sections_to
  sections_take zero i h = let is : i ≡ 0 = omega arith in rw is
  sections_take (suc k) i h = go (λ l. sections_take k i l) (dec_lt k i)
    where
      go : (i ≤ k → take i (sections_to c llc_snap n u k) ≡ sections_to c llc_snap n u i) → Dec (k < i)
          → take i (sections_to c llc_snap n u (suc k)) ≡ sections_to c llc_snap n u i
      go f (yes l) =
          let is : i ≡ suc k = omega arith in
          rw is (take_all (suc k) (sections_to c llc_snap n u (suc k)) (omega (arith, sections_length (suc k))))
      go f (no l) = take-append-le i (sections_to c llc_snap n u k) _ (omega (arith, sections_length k)) ∙ f (omega arith)

  -- and number i
  pub sections_at : (k i : ℕ) → i < k → get_or (sections_to c llc_snap n u k) i [] ≡ section_at c llc_snap n u i
  unfolding sections_to
  sections_at k i h =
      let more : i < suc i = omega arith in
      sym (get_or-take (suc i) (sections_to c llc_snap n u k) i [] more)
      ∙ ap (λ (xs : List (List ℕ)). get_or xs i []) (sections_take k (suc i) h)
      ∙ get_or_at (sections_to c llc_snap n u i) (section_at c llc_snap n u i) [] [] i (sections_length i)

  -- what is read from section i
  module _ (some : 0 < n) (most : n ≤ 4080) where
    pub section_written : (i : ℕ) → i < section_count n u → Written c.address llc_snap i (section_count n u - 1) (piece n u i)
    section_written i h =
        written_is_read c.address llc_snap i (section_count n u - 1) (piece n u i) (omega arith) (omega (arith, piece_small n u i))

    pub joined_to : (k : ℕ) → k ≤ section_count n u → joined (sections_to c llc_snap n u k) ≡ take (k * n) u
    unfolding sections_to joined section_at
    joined_to zero h = rw (zero-mul n)
    joined_to (suc k) h =
        let carried = (section_written k (omega arith)).carried in
        rw (joined_more (sections_to c llc_snap n u k) (section_at c llc_snap n u k), joined_to k (omega arith), carried) (pieces_more n u k)

    -- the payloads, joined, are the unit
    pub sections_joined : joined (sections c llc_snap n u) ≡ u
    unfolding sections
    sections_joined = joined_to (section_count n u) (le_refl (section_count n u)) ∙ pieces_all n u some
