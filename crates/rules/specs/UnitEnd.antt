-- Where a unit ends: document 02, request 3. Without LLC/SNAP the joined payloads begin with an IP datagram, and the unit ends where its
-- header says; what is after it is stuffing. With LLC/SNAP all of them are the unit.
use Rattle.std.specs.Prelude.{ℕ, ◌+◌, ◌≤◌, ◌<◌, ◌≡◌, ◌≢◌, ◌⊎◌, List, Bool, true, false, length, eqb, leb, Option, Some, None}
use Rattle.wire.specs.Bytes.{bits, byte_at, number_at}
use Rattle.wire.specs.Choice.{both, pick}

-- ---- in words
-- the IP header that p begins with has `header` bytes at least and says that its datagram has n: version 4 by the total length (RFC 791,
-- section 3.1: bytes 2, 3), version 6 by 40 and the payload length (RFC 8200, section 3: bytes 4, 5)
abbrev pub Says : List ℕ → ℕ → ℕ → Type 0
Says p header n =
    ((bits 7 4 (byte_at p 0) ≡ 4) × (header ≡ 20) × (n ≡ number_at 2 p 2))
    ⊎ ((bits 7 4 (byte_at p 0) ≡ 6) × (header ≡ 40) × (n ≡ 40 + number_at 2 p 4))

-- 25: an empty unit; version neither 4 nor 6; fewer than 20 or 40 bytes, or a stated length below that or above the joined length
abbrev pub NoDatagram : List ℕ → Type 0
NoDatagram p =
    (length p ≡ 0)
    ⊎ (((bits 7 4 (byte_at p 0) ≢ 4) × (bits 7 4 (byte_at p 0) ≢ 6))
    ⊎ ((header n : ℕ) × Says p header n × ((length p < header) ⊎ ((n < header) ⊎ (length p < n)))))

-- 54: 25 would meet it, or it is longer than stated
abbrev pub NotOneDatagram : List ℕ → Type 0
NotOneDatagram u = NoDatagram u ⊎ ((header n : ℕ) × Says u header n × (n < length u))

-- p begins with an IP datagram of n bytes, as its header says
pub record BeginsWith (p : List ℕ) (n : ℕ) : Type 0 where
  pub header : ℕ
  pub says : Says p header n
  pub least : header ≤ n
  pub most : n ≤ length p

-- the unit of the joined payloads p has n bytes: with LLC/SNAP all of them, without it the IP datagram that they begin with
unfoldable pub UnitLength : Bool → List ℕ → ℕ → Type 0
UnitLength true p n = n ≡ length p
UnitLength false p n = BeginsWith p n

-- ---- the rule
unfoldable pub version : List ℕ → ℕ
version p = bits 7 4 (byte_at p 0)

unfoldable pub total_length : List ℕ → ℕ
total_length p = number_at 2 p 2

unfoldable pub payload_length : List ℕ → ℕ
payload_length p = number_at 2 p 4

-- a datagram of n bytes ends after them if it has its header and all of them are there
unfoldable pub end_within : ℕ → ℕ → ℕ → Option ℕ
end_within there header n = pick (both (leb header n) (leb n there)) (Some n) None

unfoldable pub datagram_end : List ℕ → Option ℕ
datagram_end p =
    pick (eqb (version p) 4) (end_within (length p) 20 (total_length p))
    (pick (eqb (version p) 6) (end_within (length p) 40 (40 + payload_length p)) None)

-- with the LLC_SNAP_flag, or without it
unfoldable pub unit_end : Bool → List ℕ → Option ℕ
unit_end llc_snap p = pick llc_snap (Some (length p)) (datagram_end p)

-- the end is at n
unfoldable pub ends_at : ℕ → Option ℕ → Bool
ends_at n (Some m) = eqb m n
ends_at n None = false
