-- Document 01, 'Samples on the bench': each line marked (P), of the rules themselves, as a row of one table; after them document 02, requests
-- 2, 3, 5 and 7. Request 3 has the lines without LLC/SNAP redone with real headers, and docs/DECISIONS.md lists the lengths that grew with
-- them. Proved in proofs/Samples.antt.
use Rattle.std.specs.Prelude.{ℕ, ◌-◌, ◌≡◌, Bool, true, false, drop, replicate, take}
use mathlib.Core.List.{List, [], ◌∷◌, ◌++◌, flatten}
use Rattle.wire.specs.Bytes.{bytes_of}
use Rattle.rules.specs.declared.Address.{Address}
use Rattle.rules.specs.declared.Settings.{Settings}
use Rattle.rules.specs.declared.State.TheVariants.{Open}
use Rattle.rules.specs.Check.{check}
use Rattle.rules.specs.Recording.{listing_settings}
use Rattle.rules.specs.Section.{sealed, section_of}
use Rattle.rules.specs.Send.{default_piece, sections, sending_number, sent_of}
use Rattle.rules.specs.Step.{length_of, number_of, Outcome, step_of}
use Rattle.rules.specs.Row.{Event, fresh, gap, Held, next, section}
use Rattle.pes_rules.specs.Packet.{data_of, read_of}
use Rattle.notification_rules.specs.Finding.{finding_of, finding_number}

-- ---- the bench
-- the settings of the listing
abbrev pub own : Settings
own = listing_settings

-- an IPv4 datagram of n bytes, from 192.0.2.1 to 192.0.2.2 for experiments (protocol 253): its header, whose checksum is right up to
-- 62,973 bytes, and zeros
abbrev pub ipv4 : ℕ → List ℕ
ipv4 n =
    0x45 ∷ 0 ∷ (bytes_of 2 n ++ (0 ∷ 0 ∷ 0 ∷ 0 ∷ 64 ∷ 253 ∷ (bytes_of 2 (0xF5FD - n)
    ++ (192 ∷ 0 ∷ 2 ∷ 1 ∷ 192 ∷ 0 ∷ 2 ∷ 2 ∷ replicate (n - 20) 0))))

-- an IPv6 datagram of n bytes, from 2001:db8::1 to 2001:db8::2 with no next header (59), and zeros
abbrev pub ipv6 : ℕ → List ℕ
ipv6 n =
    let host : ℕ → List ℕ = λ k. 0x20 ∷ 0x01 ∷ 0x0D ∷ 0xB8 ∷ (replicate 11 0 ++ (k ∷ [])) in
    0x60 ∷ 0 ∷ 0 ∷ 0 ∷ (bytes_of 2 (n - 40) ++ (59 ∷ 64 ∷ (host 1 ++ (host 2 ++ replicate (n - 40) 0))))

-- a section of our own address without LLC/SNAP: its number, the last number, and its payload
abbrev pub ours : ℕ → ℕ → List ℕ → Event
ours number last p = section (section_of own.address false number last p)

-- a section of a sister, which has another MAC_address_5: a range of 1 does not tell her from us, a range of 2 does
abbrev pub sister : Address
sister = record { mac1 = 0x02; mac2 = 0x00; mac3 = 0x5E; mac4 = 0x10; mac5 = 0x21; mac6 = 0x30 }

abbrev pub hers : ℕ → ℕ → List ℕ → Event
hers number last p = section (section_of sister false number last p)

-- a datagram of 20 bytes, all header, and its first 17 and last 3
abbrev pub datagram20 : List ℕ
datagram20 = ipv4 20

abbrev pub first17 : List ℕ
first17 = take 17 datagram20

abbrev pub last3 : List ℕ
last3 = drop 17 datagram20

-- the numbers and unit lengths that a receiver answers, section by section
unfoldable pub answers_from : Settings → Held → List Event → List ℕ
answers_from c h [] = []
answers_from c h (gap ∷ r) = answers_from c (next c h gap) r
answers_from c h (section s ∷ r) =
    let o : Outcome = step_of c h.state s h.buffer in
    number_of o.step.answer ∷ length_of o.step.answer ∷ answers_from c (next c h (section s)) r

-- a fresh one with a buffer of n bytes
abbrev pub answers : ℕ → List Event → List ℕ
answers n r = answers_from own (fresh (replicate n 0)) r

-- a fresh one with this range, and a buffer of 20 bytes
abbrev pub answers_by : ℕ → List Event → List ℕ
answers_by range r = answers_from (record { address = own.address; range = range; limit = own.limit }) (fresh (replicate 20 0)) r

-- a fresh one with a buffer of 60 bytes, to one section alone with this flag and this payload
abbrev pub alone : Bool → List ℕ → List ℕ
alone llc_snap p = answers 60 (section (section_of own.address llc_snap 0 0 p) ∷ [])

-- one that holds a run of which number 1 is due, the last, with 17 bytes of the unit, as it was handed in: this buffer and the last 3
abbrev pub held_with : List ℕ → List ℕ
held_with b =
    answers_from own
    (record { state = Open 1 17 (record { last = 1; llc_snap = false; address = own.address }); buffer = b })
    (ours 1 1 last3 ∷ [])

-- what is read of a packet: the answer, extension, rate, and the data
abbrev pub packet : List ℕ → List ℕ
packet s = (read_of s).answer ∷ (read_of s).extension ∷ (read_of s).rate ∷ data_of s

-- the check's answer to 16 bytes with this byte 1, zeros from byte 3 on and so a wrong CRC_32
abbrev pub indicators : ℕ → ℕ
indicators byte1 = check (0x3E ∷ byte1 ∷ 13 ∷ replicate 13 0)

-- the answer to an INT section with this byte 1 and no loops for the platform 01 02 04, with this hash
abbrev pub platform : ℕ → ℕ → ℕ
platform byte1 hash =
    finding_number (finding_of own.address (sealed (0x4C ∷ byte1 ∷ 15 ∷ 0x01 ∷ hash ∷ 0xC1 ∷ 0 ∷ 0 ∷ 0x01 ∷ 0x02 ∷ 0x04 ∷ 0 ∷ 0xF0 ∷ 0 ∷ [])))

-- the sender's answer to a unit with this flag and no piece size, where the output has room for 16 sections of 1,024 bytes
abbrev pub by_default : Bool → List ℕ → ℕ
by_default llc_snap u = sending_number (sent_of own llc_snap default_piece u (replicate 16384 0)).sending

-- ---- the table
-- what the rules give, and what the papers say
pub record Sample : Type 0 where
  pub gives : List ℕ
  pub says : List ℕ

abbrev pub sample : List ℕ → List ℕ → Sample
sample g s = record { gives = g; says = s }

unfoldable pub samples : List Sample
samples =
    -- (P) address above, payload of 20 bytes, no flag, alone: the header
    sample (take 12 (flatten (sections own false 4080 datagram20))) (0x3E ∷ 0xB0 ∷ 0x21 ∷ 0x30 ∷ 0x20 ∷ 0xC1 ∷ 0 ∷ 0 ∷ 0x10 ∷ 0x5E ∷ 0 ∷ 0x02 ∷ [])
    -- (P) payload 4,080: the header starts 3E BF FD
    ∷ sample (take 3 (flatten (sections own false 4080 (ipv4 4080)))) (0x3E ∷ 0xBF ∷ 0xFD ∷ [])
    -- (P) 15 bytes: 12
    ∷ sample (check (replicate 15 0) ∷ []) (12 ∷ [])
    -- (P) section_length 4,094 in 4,097 bytes: 14
    ∷ sample (check (0x3E ∷ 0xBF ∷ 0xFE ∷ replicate 4094 0) ∷ []) (14 ∷ [])
    -- (P) payload lengths 17, 0, 3 in one run: unit of 20; (P) a buffer of 20 takes it
    ∷ sample (answers 20 (ours 0 2 first17 ∷ ours 1 2 [] ∷ ours 2 2 last3 ∷ [])) (1 ∷ 0 ∷ 1 ∷ 0 ∷ 0 ∷ 20 ∷ [])
    -- (P) a buffer of 19 gives 23 at the third
    ∷ sample (answers 19 (ours 0 2 first17 ∷ ours 1 2 [] ∷ ours 2 2 last3 ∷ [])) (1 ∷ 0 ∷ 1 ∷ 0 ∷ 23 ∷ 0 ∷ [])
    -- (P) numbers 0, 1, 1 with L = 2: stored, stored, 22
    ∷ sample (answers 20 (ours 0 2 [] ∷ ours 1 2 [] ∷ ours 1 2 [] ∷ [])) (1 ∷ 0 ∷ 1 ∷ 0 ∷ 22 ∷ 0 ∷ [])
    -- (P) numbers 0, gap notice, 1: stored, then 22
    ∷ sample (answers 20 (ours 0 2 [] ∷ gap ∷ ours 1 2 [] ∷ [])) (1 ∷ 0 ∷ 22 ∷ 0 ∷ [])
    -- (P) L = 16 with limit 16: 21; L = 15 stored
    ∷ sample (answers 20 (ours 0 16 [] ∷ ours 0 15 [] ∷ [])) (21 ∷ 0 ∷ 1 ∷ 0 ∷ [])
    -- (P) packet 21 05 F6 FF 2B F0 1F 40 00 AA BB: extension 299, rate 2,048,000, data AA BB
    ∷ sample (packet (0x21 ∷ 0x05 ∷ 0xF6 ∷ 0xFF ∷ 0x2B ∷ 0xF0 ∷ 0x1F ∷ 0x40 ∷ 0x00 ∷ 0xAA ∷ 0xBB ∷ [])) (5 ∷ 299 ∷ 2048000 ∷ 0xAA ∷ 0xBB ∷ [])
    -- (P) 22 00 30: no data
    ∷ sample (packet (0x22 ∷ 0x00 ∷ 0x30 ∷ [])) (5 ∷ 0 ∷ 0 ∷ [])
    -- (P) 22 00 31: 43
    ∷ sample (packet (0x22 ∷ 0x00 ∷ 0x31 ∷ [])) (43 ∷ 0 ∷ 0 ∷ [])
    -- (P) platform_id 01 02 04 has hash 07; 06 gives 31
    ∷ sample (platform 0xB0 0x07 ∷ platform 0xB0 0x06 ∷ []) (4 ∷ 31 ∷ [])
    -- 02, request 2: with a wrong CRC_32, bits 01: 24, bits 00 and 11: 15, bits 10: 16
    ∷ sample (indicators 0x70 ∷ indicators 0x30 ∷ indicators 0xF0 ∷ indicators 0xB0 ∷ []) (24 ∷ 15 ∷ 15 ∷ 16 ∷ [])
    -- 02, request 2: the INT keeps 15 for bits 01 and 00, and bit 6 is not looked at
    ∷ sample (platform 0x70 0x07 ∷ platform 0x30 0x07 ∷ platform 0xF0 0x07 ∷ []) (15 ∷ 15 ∷ 4 ∷ [])
    -- 02, request 3: the unit ends where its header says: one byte of stuffing, version 4 and 6; whole sections of stuffing
    ∷ sample (alone false (datagram20 ++ (0 ∷ [])) ++ alone false (ipv6 40 ++ (0 ∷ []))) (0 ∷ 20 ∷ 0 ∷ 40 ∷ [])
    ∷ sample (answers 60 (ours 0 2 datagram20 ∷ ours 1 2 (replicate 5 0) ∷ ours 2 2 (replicate 5 0) ∷ [])) (1 ∷ 0 ∷ 1 ∷ 0 ∷ 0 ∷ 20 ∷ [])
    -- 02, request 3: 25: an empty unit, version 5, 39 of 40 bytes; stated 19 and 21 where 20 are joined
    ∷ sample (alone false [] ++ (alone false (0x55 ∷ drop 1 datagram20) ++ alone false (take 39 (ipv6 40)))) (25 ∷ 0 ∷ 25 ∷ 0 ∷ 25 ∷ 0 ∷ [])
    ∷ sample (alone false (take 20 (ipv4 19)) ++ alone false (take 20 (ipv4 21))) (25 ∷ 0 ∷ 25 ∷ 0 ∷ [])
    -- 02, request 3: 23 comes first: a unit of 25 and one byte of stuffing, and a buffer of 25
    ∷ sample (answers 25 (ours 0 0 (ipv4 25 ++ (0 ∷ [])) ∷ [])) (23 ∷ 0 ∷ [])
    -- 02, request 3: with LLC/SNAP all of the joined payloads are the unit, whatever they are
    ∷ sample (alone true (datagram20 ++ (0 ∷ [])) ++ (alone true (replicate 20 0) ++ alone true [])) (0 ∷ 21 ∷ 0 ∷ 20 ∷ 0 ∷ 0 ∷ [])
    -- 02, request 3: the answer at number L is by what the buffer holds before f
    ∷ sample (held_with datagram20 ++ held_with (replicate 20 0)) (0 ∷ 20 ∷ 25 ∷ 0 ∷ [])
    -- 02, request 3: no flag, and a unit of 60 bytes that states 59, or an empty one: 54; with the flag they are sent
    ∷ sample (by_default false (ipv4 59 ++ (0 ∷ [])) ∷ by_default false [] ∷ by_default true (ipv4 59 ++ (0 ∷ [])) ∷ by_default true [] ∷ []) (54 ∷ 54 ∷ 0 ∷ 0 ∷ [])
    -- 02, request 3: 51, 54, 52 in this order
    ∷ sample (by_default false (replicate 65536 0) ∷ by_default false (replicate 16129 0) ∷ []) (51 ∷ 54 ∷ [])
    -- 02, request 5: range 1, two sisters A and B: A0, B0, A1, B1 are stored, stored, 22, 22
    ∷ sample (answers_by 1 (ours 0 1 first17 ∷ hers 0 1 first17 ∷ ours 1 1 last3 ∷ hers 1 1 last3 ∷ [])) (1 ∷ 0 ∷ 1 ∷ 0 ∷ 22 ∷ 0 ∷ 22 ∷ 0 ∷ [])
    -- 02, request 5: range 1: A0, B0, B1 is B's unit; range 2, which tells them apart: A0, B0, A1, B1 is A's
    ∷ sample (answers_by 1 (ours 0 1 [] ∷ hers 0 1 first17 ∷ hers 1 1 last3 ∷ [])) (1 ∷ 0 ∷ 1 ∷ 0 ∷ 0 ∷ 20 ∷ [])
    ∷ sample (answers_by 2 (ours 0 1 first17 ∷ hers 0 1 first17 ∷ ours 1 1 last3 ∷ hers 1 1 last3 ∷ [])) (1 ∷ 0 ∷ 2 ∷ 0 ∷ 0 ∷ 20 ∷ 2 ∷ 0 ∷ [])
    -- 02, request 7: with no piece size and limit 16, 16,128 bytes are sent and 16,129 get 52
    ∷ sample (by_default false (ipv4 16128) ∷ by_default false (ipv4 16129) ∷ []) (0 ∷ 52 ∷ [])
    -- 02, request 7: with no piece size, the first section of 1,009 bytes starts 3E B3 FD: it has 1,024
    ∷ sample (take 3 (flatten (sections own false default_piece (ipv4 1009)))) (0x3E ∷ 0xB3 ∷ 0xFD ∷ [])
    ∷ []

-- every row: what the rules give is what the papers say
abbrev pub AllRight : List Sample → Type 0
AllRight [] = Unit {0}
AllRight (x ∷ xs) = (x.gives ≡ x.says) × AllRight xs

abbrev pub Samples : Type 0
Samples = AllRight samples
