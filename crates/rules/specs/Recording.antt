-- The settings of the listing, and how it cuts a recording into offers: document 01, 'Listing'.
use Rattle.std.specs.Prelude.{ℕ, zero, suc, ◌+◌, min, List, [], ◌∷◌, length, take, drop, eqb, ltb}
use Rattle.wire.specs.Choice.{pick}
use Rattle.rules.specs.declared.Settings.{Settings}
use Rattle.rules.specs.Section.{section_length}

-- address 02:00:5E:10:20:30, range 6, limit 16
abbrev pub listing_settings : Settings
listing_settings =
    record {
      address = record { mac1 = 0x02; mac2 = 0x00; mac3 = 0x5E; mac4 = 0x10; mac5 = 0x20; mac6 = 0x30 };
      range = 6;
      limit = 16;
    }

-- with 3 or more bytes left, 3 + section_length bytes or what is left, else the rest
unfoldable pub offer_length : List ℕ → ℕ
offer_length r = pick (ltb (length r) 3) (length r) (min (3 + section_length r) (length r))

-- the offers of a recording, first to last; each takes a byte or more, so there are at most as many as bytes
unfoldable pub offers_within : ℕ → List ℕ → List (List ℕ)
offers_within zero r = []
offers_within (suc k) r = pick (eqb (length r) 0) [] (take (offer_length r) r ∷ offers_within k (drop (offer_length r) r))

unfoldable pub offers : List ℕ → List (List ℕ)
offers r = offers_within (length r) r
