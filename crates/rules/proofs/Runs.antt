-- A section's number and its index in the row say where its run begins, so runs that share a section are one.
use Rattle.std.proofs.Math.Decide.{dec_le, dec_lt}
use Rattle.std.proofs.Math.ListN.{get_or-append, get_or-map}
use Rattle.std.proofs.Math.Seq.{get_or-append_seam}
use Rattle.std.proofs.lemmas.List.{length-map, length_push, map_push, same_from_push, take_more}
use Rattle.std.proofs.Common.{ℕ, ◌+◌, ◌-◌, ◌≤◌, ◌<◌, arith, ◌≡◌, ap, sym, ◌∙◌, List, [], ◌∷◌, ◌++◌, map, append_assoc, append-nil, length, get_or, take, take_all, length-append, ext_get_or, get_or-append-add}
use Rattle.rules.specs.declared.Settings.{Settings}
use Rattle.rules.specs.declared.Key.{Key}
use Rattle.rules.specs.Section.{payload}
use Rattle.rules.specs.Step.{room}
use Rattle.rules.specs.Row.{Event, section, gap}
use Rattle.rules.proofs.Tested.{joined, Ends, InRun, Run, WholeRun}

pub joined_more : (xs : List (List ℕ)) (s : List ℕ) → joined (xs ++ (s ∷ [])) ≡ joined xs ++ payload s
unfolding joined
joined_more [] s = append-nil (payload s)
joined_more (x ∷ xs) s = rw (joined_more xs s, append_assoc)

pub joined_length : (xs : List (List ℕ)) (s : List ℕ) → length (joined (xs ++ (s ∷ []))) ≡ length (joined xs) + length (payload s)
joined_length xs s = rw (joined_more xs s, length-append)

-- ---- indexes in a row
pub ends_size : {row : List Event} {xs : List (List ℕ)} (e : Ends row xs) → length row ≡ length e.front + length xs
ends_size e = ap length e.split ∙ simp (length-append, length-map)

-- the row's event at an index after the front is the section there
ends_at : {row : List Event} {xs : List (List ℕ)} (e : Ends row xs) (j : ℕ)
    → get_or row (length e.front + j) (section []) ≡ section (get_or xs j [])
ends_at {row} {xs} e j =
    ap (λ (l : List Event). get_or l (length e.front + j) (section [])) e.split
    ∙ get_or-append-add e.front (map section xs) j (section [])
    ∙ get_or-map section xs j []

-- the row's last event is the last section
ends_last : (past : List Event) (v : Event) {xs : List (List ℕ)} (n : ℕ) → Ends (past ++ (v ∷ [])) xs → length xs ≡ n + 1
    → v ≡ section (get_or xs n [])
ends_last past v n e h =
    let index : length past ≡ length e.front + n = omega (arith, ends_size e, length_push past v) in
    sym (get_or-append_seam past v [] (section []))
    ∙ ap (λ (i : ℕ). get_or (past ++ (v ∷ [])) i (section [])) index
    ∙ ends_at e n

-- a row that ends in a gap notice ends in no sections
pub no_gap : (past : List Event) {xs : List (List ℕ)} → Ends (past ++ (gap ∷ [])) xs → 0 < length xs → ⊥
no_gap past {xs} e some =
    let last : gap ≡ section (get_or xs (length xs - 1) []) = ends_last past gap (length xs - 1) e (omega arith) in
    cc

module _ (c : Settings) (b : List ℕ) where
  -- the row ends in the run xs
  pub record EndsIn (row : List Event) (κ : Key) (xs : List (List ℕ)) : Type 0 where
    pub run : Run c b κ xs
    pub there : Ends row xs

  abbrev pub whole_ends : {row : List Event} {xs : List (List ℕ)} (u : WholeRun c b xs) → Ends row xs → EndsIn row u.key xs
  whole_ends u e = record { run = u.run; there = e }

  -- ---- one section more
  pub none : (row : List Event) (κ : Key) → EndsIn row κ []
  unfolding joined
  none row κ =
      record {
        run = record { each = λ i h. absurd (omega arith); fits = omega arith };
        there = record { front = row; split = sym (append-nil row) };
      }

  pub more : {row : List Event} {κ : Key} {xs : List (List ℕ)} (s : List ℕ) → EndsIn row κ xs → InRun c κ (length xs) s
      → length (joined xs) + length (payload s) ≤ room b → EndsIn (row ++ (section s ∷ [])) κ (xs ++ (s ∷ []))
  more {row} {κ} {xs} s e p h =
      record {
        run = record { each = λ i k. at i k (dec_lt i (length xs)); fits = rw (joined_length xs s) h };
        there = record { front = e.there.front; split = rw (map_push section xs s, ← append_assoc, ← e.there.split) };
      }
    where
      at : (i : ℕ) → i < length (xs ++ (s ∷ [])) → Dec (i < length xs) → InRun c κ i (get_or (xs ++ (s ∷ [])) i [])
      at i k (yes l) = rw (get_or-append xs (s ∷ []) [] i l) (e.run.each i l)
      at i k (no l) = let is : i ≡ length xs = omega (arith, length_push xs s) in rw (is, get_or-append_seam xs s [] []) p

  -- ---- one section less
  -- the section s goes on with a run that the row past ends in
  pub record Next (past : List Event) (s : List ℕ) (κ : Key) : Type 0 where
    pub init : List (List ℕ)
    pub before : EndsIn past κ init
    pub in_run : InRun c κ (length init) s
    pub fits : length (joined init) + length (payload s) ≤ room b

  next_of : {past : List Event} {s : List ℕ} {κ : Key} (init : List (List ℕ))
      → EndsIn (past ++ (section s ∷ [])) κ (init ++ (s ∷ [])) → Next past s κ
  next_of {past} {s} {κ} init e =
      let before : List Event = e.there.front ++ map section init in
      let split : past ++ (section s ∷ []) ≡ before ++ (section s ∷ []) =
      e.there.split ∙ rw (map_push section init s, append_assoc) in
      let run : Run c b κ init =
      record {
        each = λ i h. rw (get_or-append init (s ∷ []) [] i h) at (e.run.each i (omega (arith, length_push init s)));
        fits = omega (arith, joined_length init s, e.run.fits);
      } in
      record {
        init = init;
        before = record { run = run; there = record { front = e.there.front; split = (same_from_push past before _ _ split).0 } };
        in_run = rw (get_or-append_seam init s [] []) at (e.run.each (length init) (omega (arith, length_push init s)));
        fits = rw (joined_length init s) at e.run.fits;
      }

  pub next : {past : List Event} {s : List ℕ} {κ : Key} {xs : List (List ℕ)} → EndsIn (past ++ (section s ∷ [])) κ xs
      → 0 < length xs → Next past s κ
  next {past} {s} {κ} {xs} e some =
      let n : ℕ = length xs - 1 in
      let last : section s ≡ section (get_or xs n []) = ends_last past (section s) n e.there (omega arith) in
      let is : get_or xs n [] ≡ s = cc in
      let whole : take (n + 1) xs ≡ xs = take_all (n + 1) xs (omega arith) in
      let split : xs ≡ take n xs ++ (s ∷ []) = rw (whole, is) at (take_more xs n [] (omega arith)) in
      next_of (take n xs) (rw split at e)

  -- ---- runs that share a section
  -- a run in a row and one in a longer row that begins before the first has ended: they share the first's last section, so they
  -- begin at one index and agree
  shared : {row : List Event} (later : List Event) {κ μ : Key} {xs ys : List (List ℕ)} (x : EndsIn row κ xs)
      (y : EndsIn (row ++ later) μ ys) → 0 < length xs → length y.there.front < length row
      → (length x.there.front ≡ length y.there.front) × (κ ≡ μ)
  shared {row} later {κ} {μ} {xs} {ys} x y some overlap =
      let n : ℕ = length xs - 1 in
      let i : ℕ = length x.there.front + n in
      let j : ℕ = i - length y.there.front in
      let ends : i + 1 ≡ length row = omega (arith, ends_size x.there) in
      let index : i ≡ length y.there.front + j = omega arith in
      let at : section (get_or xs n []) ≡ section (get_or ys j []) =
      sym (get_or-append row later (section []) i (omega arith) ∙ ends_at x.there n)
      ∙ ap (λ (k : ℕ). get_or (row ++ later) k (section [])) index
      ∙ ends_at y.there j in
      let is : get_or ys j [] ≡ get_or xs n [] = cc in
      let p : InRun c κ n (get_or xs n []) = x.run.each n (omega arith) in
      let q : InRun c μ j (get_or xs n []) =
      rw is at (y.run.each j (omega (arith, ends_size y.there, length-append row later))) in
      (omega (arith, p.numbered, q.numbered), sym p.agrees ∙ q.agrees)

  pub record Same (κ μ : Key) (xs ys : List (List ℕ)) : Type 0 where
    pub sections : xs ≡ ys
    pub key : κ ≡ μ

  -- a row ends in one run at most
  pub only : {row : List Event} {κ μ : Key} {xs ys : List (List ℕ)} → EndsIn row κ xs → EndsIn row μ ys
      → 0 < length xs → 0 < length ys → Same κ μ xs ys
  only {row} {κ} {μ} {xs} {ys} x y some some' =
      let y' : Ends (row ++ []) ys = record { front = y.there.front; split = append-nil row ∙ y.there.split } in
      let s = shared [] x (record { run = y.run; there = y' }) some (omega (arith, ends_size y.there)) in
      let sizes : length xs ≡ length ys = omega (arith, s.0, ends_size x.there, ends_size y.there) in
      record {
        sections = ext_get_or [] xs ys sizes (λ j h. cc (s.0, ends_at x.there j, ends_at y.there j));
        key = s.1;
      }

  -- of two whole runs in one row, the later begins after the end of the earlier
  pub apart : (row later : List Event) {xs ys : List (List ℕ)} → WholeRun c b xs → WholeRun c b ys → Ends row xs
      → (y : Ends (row ++ later) ys) → 0 < length later → length row ≤ length y.front
  apart row later {xs} {ys} u v x y longer = go (dec_le (length row) (length y.front))
    where
      go : Dec (length row ≤ length y.front) → length row ≤ length y.front
      go (yes h) = h
      go (no h) =
          let s =
          shared later (whole_ends u x) (whole_ends v y) (omega (arith, u.whole)) (omega arith) in
          let last : u.key.last ≡ v.key.last = ap (λ (κ : Key). κ.last) s.1 in
          absurd (omega (arith, s.0, ends_size x, ends_size y, length-append row later, u.whole, v.whole))
