-- What each number means, in document 01's order and words: 'The PES data packet'. By bytes, bits and lengths, with none of the
-- reader's own tests. A theorem, shown in proofs/Meaning.antt.
use Rattle.std.specs.Prelude.{ℕ, ◌+◌, ◌*◌, ◌<◌, ◌≡◌, ◌↔◌, ◌≢◌, ◌⊎◌, List, [], ◌∷◌, length}
use Rattle.wire.specs.Bytes.{bit, bits, byte_at}
use Rattle.wire.specs.Meaning.{FirstThat, otherwise, Outside, Row, ◌means◌}
use Rattle.pes_rules.specs.Packet.{read_of}

-- byte 0 is data_identifier; of byte 2, bit 7 is PTS_extension_flag, for 2 bytes, bit 6 output_data_rate_flag, for 4 bytes, bits 3-0 are H
abbrev pub packet_rows : List ℕ → List Row
packet_rows s =
    40 means (Outside 3 65535 (length s))
    ∷ 41 means ((byte_at s 0 ≢ 0x21) × (byte_at s 0 ≢ 0x22))
    ∷ 42 means (((byte_at s 0 ≡ 0x21) × (bit 7 (byte_at s 2) ≡ 0)) ⊎ ((byte_at s 0 ≡ 0x22) × (bit 6 (byte_at s 2) ≡ 1)))
    ∷ 43 means ((bits 3 0 (byte_at s 2) < 2 * bit 7 (byte_at s 2) + 4 * bit 6 (byte_at s 2)) ⊎ (length s < 3 + bits 3 0 (byte_at s 2)))
    ∷ 5 means otherwise
    ∷ []

abbrev pub PacketMeans : Type 0
PacketMeans = (s : List ℕ) (n : ℕ) → ((read_of s).answer ≡ n) ↔ FirstThat n (packet_rows s)
