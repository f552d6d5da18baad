-- The first pair that answers is the same from here as from the start; what is left of a loop or a descriptor covers as all of it does.
use Rattle.notification.specs.Readers.{Turns, pairs_from, answers_by}
use Rattle.notification_rules.specs.Target.{covers, entry_bytes, hit, first_pair}
use Rattle.notification_rules.specs.Loop.{descriptor_items}
use Rattle.notification_rules.specs.Cut.{cut_of, any}
use Rattle.std.specs.Slice.Iter.{chunks_exact_rest, chunks_exact_size}
use lib.ListN.{length}
use mathlib.Core.Path.{◌≡◌}
use Prim.Native.Nat.{◌-◌}
use Rattle.notification.proofs.search.Given as goal

-- what holds of each loop, and what falls: of the addresses, of the descriptors and of the pairs
abbrev pub invariant-addresses : goal.invariant-addresses
invariant-addresses l = (chunks_exact_size l.entry-iterator ≡ l.step) × (any
    (hit l.device l.descriptor) (cut_of (λ _. l.step) (chunks_exact_rest l.entry-iterator)).items
    ≡ any (hit l.device l.descriptor) (cut_of (λ _. l.step) (entry_bytes l.descriptor)).items)

abbrev pub invariant-descriptors : goal.invariant-descriptors
invariant-descriptors l = any (covers l.device) (descriptor_items l.rest)
    ≡ any (covers l.device) (descriptor_items l.target)

abbrev pub decreases-descriptors : goal.decreases-descriptors
decreases-descriptors l = length l.rest

abbrev pub invariant-pairs : goal.invariant-pairs
invariant-pairs l = Turns l.s l.offset × (first_pair (answers_by l.device l.general) (pairs_from l.s l.offset)
    ≡ first_pair (answers_by l.device l.general) (pairs_from l.s l.from))

abbrev pub decreases-pairs : goal.decreases-pairs
decreases-pairs l = length l.s - l.offset
