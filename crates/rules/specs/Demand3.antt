-- Demand 3, and document 02, requests 3 and 5, by values and bytes alone, with none of the receiver's own tests. Theorems, shown in
-- proofs/Demand3.antt.
use Rattle.std.specs.Prelude.{ℕ, ◌+◌, ◌≤◌, ◌≡◌, ◌↔◌, ◌⊎◌, List, [], ◌∷◌, ◌++◌, map, Bool, length, take}
use Rattle.wire.specs.Bytes.{bit, byte_at, Bytes}
use Rattle.rules.specs.declared.Address.{Address}
use Rattle.rules.specs.declared.Settings.{Settings}
use Rattle.rules.specs.Meaning.{Good, Own}
use Rattle.rules.specs.Sound.{Limits, table3, Values}
use Rattle.rules.specs.Row.{after, datagram, Event, fresh, gap, Handed, handed_over, Held, nothing, section}
use Rattle.rules.specs.UnitEnd.{BeginsWith, UnitLength}

-- every section of a row is a list of bytes
unfoldable pub OfBytes : List Event → Type 0
OfBytes [] = Unit
OfBytes (section s ∷ r) = Bytes s × OfBytes r
OfBytes (gap ∷ r) = OfBytes r

-- a sound section for another address
pub record Elsewhere (c : Settings) (e : Event) : Type 0 where
  pub values : Values
  pub limits : Limits values
  pub is : e ≡ section (table3 values)
  pub other : ¬ Own c values.address

-- t is the row r with the sound sections for other addresses struck out
unfoldable pub Struck : Settings → List Event → List Event → Type 0
Struck c [] t = t ≡ []
Struck c (e ∷ r) t = (Elsewhere c e × Struck c r t) ⊎ ((¬ Elsewhere c e) × ((u : List Event) × (t ≡ e ∷ u) × Struck c r u))

-- sound, for this address, not scrambled (20), and its last number within the section limit (21)
pub record Receivable (c : Settings) (v : Values) : Type 0 where
  pub limits : Limits v
  pub own : Own c v.address
  pub clear : v.scrambling ≡ 0
  pub within : v.last + 1 ≤ c.limit

-- section i of a run of this full address, all six bytes, with this last number and this flag
pub record InRun (c : Settings) (address : Address) (last : ℕ) (llc_snap : Bool) (i : ℕ) (v : Values) : Type 0 where
  pub receivable : Receivable c v
  pub numbered : v.number ≡ i
  pub addressed : v.address ≡ address
  pub ending : v.last ≡ last
  pub flagged : v.llc_snap ≡ llc_snap

-- the payloads, joined: all of their bytes, stuffing too
unfoldable pub joined : List Values → List ℕ
joined [] = []
joined (v ∷ r) = v.payload ++ joined r

-- under good settings, sections of one full address numbered from 0 up to their last number, each by how many stand before it; 65,535
-- bytes at most, and no more than the buffer; and their unit has an end: without LLC/SNAP, where its IP header says (25)
pub record WholeRun (c : Settings) (b : List ℕ) (vs : List Values) : Type 0 where
  pub good : Good c
  pub address : Address
  pub last : ℕ
  pub llc_snap : Bool
  pub each : (front back : List Values) (v : Values) → vs ≡ front ++ (v ∷ back) → InRun c address last llc_snap (length front) v
  pub whole : length vs ≡ last + 1
  pub unit : length (joined vs) ≤ 65535
  pub room : length (joined vs) ≤ length b
  pub end : ℕ
  pub ends : UnitLength llc_snap (joined vs) end

-- the row ends in these sections, with no other event between
pub record Ends (row : List Event) (vs : List Values) : Type 0 where
  pub front : List Event
  pub split : row ≡ front ++ map (λ (v : Values). section (table3 v)) vs

-- the row ends in a whole run, and d, n bytes, is the first part of their payloads joined, up to the unit's end
pub record Ready (c : Settings) (b : List ℕ) (row : List Event) (n : ℕ) (d : List ℕ) : Type 0 where
  pub sections : List Values
  pub run : WholeRun c b sections
  pub there : Ends row sections
  pub bytes : d ≡ take run.end (joined sections)
  pub size : n ≡ length d

-- at the event e after the row r, d is handed over
pub record HandedRight (c : Settings) (b : List ℕ) (r : List Event) (e : Event) (d : Handed) : Type 0 where
  -- nothing at a sound section for another address
  pub struck : Elsewhere c e → d ≡ nothing
  -- at any other event a datagram exactly when the struck row ends there in a whole run; it is their unit
  pub exactly : ¬ Elsewhere c e → (t : List Event) → Struck c (r ++ (e ∷ [])) t
      → (n : ℕ) (u : List ℕ) → (d ≡ datagram n u) ↔ Ready c b t n u

-- every row of bytes can be struck
abbrev pub CanBeStruck : Settings → Type 0
CanBeStruck c = (r : List Event) → OfBytes r → (t : List Event) × Struck c r t

-- that run is the only one ending there
abbrev pub OnlyOne : Settings → List ℕ → Type 0
OnlyOne c b = (row : List Event) (xs ys : List Values) → WholeRun c b xs → WholeRun c b ys → Ends row xs → Ends row ys → xs ≡ ys

-- no section serves two datagrams: of two whole runs that a row ends in, there and further on, the later begins after the end of the earlier
abbrev pub Once : Settings → List ℕ → Type 0
Once c b =
    (r q : List Event) (e : Event) → ¬ Elsewhere c e → (t u : List Event) → Struck c r t → Struck c (r ++ (q ++ (e ∷ []))) u
    → (xs ys : List Values) → WholeRun c b xs → WholeRun c b ys → Ends t xs → (y : Ends u ys) → length t ≤ length y.front

-- document 02, request 3: handed over at a section without LLC/SNAP, a datagram is never longer nor shorter than its own IP header says
abbrev pub OwnLength : List ℕ → Handed → Type 0
OwnLength s d = bit 1 (byte_at s 5) ≡ 0 → (n : ℕ) (u : List ℕ) → d ≡ datagram n u → (n ≡ length u) × BeginsWith u n

-- Demand 3: for any settings and any buffer, at every event of every row of bytes
pub record Demand3 (c : Settings) (b : List ℕ) : Type 0 where
  pub each : (r : List Event) (e : Event) → OfBytes (r ++ (e ∷ [])) → HandedRight c b r e (handed_over c (after c (fresh b) r) e)
  pub strikes : CanBeStruck c
  pub only : OnlyOne c b
  pub once : Once c b
  pub own : (h : Held) (s : List ℕ) → OwnLength s (handed_over c h (section s))

abbrev pub Demand3Holds : Type 0
Demand3Holds = (c : Settings) (b : List ℕ) → Demand3 c b
