-- The first pair that answers is the same from here as from the start; what is left of a loop or a descriptor covers as all of it does.
use Rattle.notification.proofs.Pairs.{seen, stops_here, passes, answers_empty, answers_some, answers_nowhere, no_descriptor, descriptor_hit, descriptor_miss, no_entry, entry_hit, entry_miss, covers_by, one_holds, none_holds}
use Rattle.wire.proofs.Choice.{was}
use lib.ListN.{length}
use mathlib.Core.Bool.{true, false}
use mathlib.Core.Path.{refl, sym, ◌∙◌}
use native.Mathlib.Omega.{arith}
use Prim.Native.Nat.{◌<◌}
use Rattle.std.specs.Slice.Iter.{chunks_exact_rest}
use Rattle.notification.proofs.search.Goals as goal
use Rattle.notification.proofs.search.Goals.{then-has_location+else-target-eq0+in_default, else-has_location+else-general}

pub returns-then-target-eq0 : goal.returns-then-target-eq0
returns-then-target-eq0 c =
    let P = c.pairs in
    let q = seen P.invariant.0 c.pairs-test.true c.loop_at-target.ensures c.loop_at-operational.ensures c.has_location.ensures in
    stops_here c.args.device c.args.general _ _ _ _ _ q c.args.from P.invariant.1
    (answers_empty c.args.device c.args.general _ _ _ _ _ q c.if-target-eq0.true (one_holds _ _ c.then-has_location.either))

pub addresses-init-derived : goal.addresses-init-derived
addresses-init-derived c =
    let g = c.entry_size-step.ensures.some in
    (rw (c.into_iter-entry-iterator.ensures.into_iter_gives, c.chunks_exact-entry-items.ensures.size) g, tt)

pub addresses-preserved : goal.addresses-preserved
addresses-preserved c =
    let g = c.entry_size-step.ensures.some in
    let d = c.in-Some.descriptor.now in
    let s = rw c.in-Some-entry.is at c.next.ensures.steps in
    let I = c.addresses.invariant in (
      s.0 ∙ I.0,
      entry_miss c.args.device d _ g _ _ _ s.1.0 (s.1.1 ∙ I.0) (was c.hit.ensures c.if-hit.false) ∙ I.1,
    )

pub descriptors-preserved : goal.descriptors-preserved
descriptors-preserved c =
    let g = c.entry_size-step.ensures.some in
    let d = c.in-Some.descriptor.now in
    let D = c.args.device in
    let s = rw c.in-None.is at c.next.ensures.steps in
    let I = c.addresses.invariant in
    let l : length (chunks_exact_rest c.addresses.entry-iterator) < c.entry_size-step.result = omega (arith, s.1.0, I.0) in
    descriptor_miss D _ _ c.descriptor_size.ensures.is d _ c.in-Some.ensures.cases
    (covers_by D d _ _ _ false c.byte_at.ensures.is (c.entry_size-step.ensures.is _ c.from-kind.ensures) refl (sym I.1 ∙ no_entry D d _ g _ l))
    ∙ c.descriptors.invariant

pub returns-then-hit : goal.returns-then-hit
returns-then-hit c =
    let P = c.pairs in
    let q = seen P.invariant.0 c.pairs-test.true c.loop_at-target.ensures c.loop_at-operational.ensures c.has_location.ensures in
    let d = c.in-Some.descriptor.now in
    let D = c.args.device in
    let g = c.entry_size-step.ensures.some in
    let s = rw c.in-Some-entry.is at c.next.ensures.steps in
    let I = c.addresses.invariant in
    let struck = entry_hit D d _ g _ _ _ s.1.0 (s.1.1 ∙ I.0) (was c.hit.ensures c.if-hit.true) in
    let by = covers_by D d _ _ _ true c.byte_at.ensures.is (c.entry_size-step.ensures.is _ c.from-kind.ensures) refl (sym I.1 ∙ struck) in
    let all = sym c.descriptors.invariant
    ∙ descriptor_hit D _ _ c.descriptor_size.ensures.is d _ c.in-Some.ensures.cases by in
    stops_here c.args.device c.args.general _ _ _ _ _ q c.args.from P.invariant.1
    (answers_some c.args.device c.args.general _ _ _ _ _ q c.if-target-eq0.false (one_holds _ _ c.then-has_location.either) true all)

pub pairs-preserved : goal.pairs-preserved
pairs-preserved c =
    let P = c.pairs in
    let q = seen P.invariant.0 c.pairs-test.true c.loop_at-target.ensures c.loop_at-operational.ensures c.has_location.ensures in
    passes c.args.device c.args.general _ _ _ _ _ q c.args.from P.invariant.1
    (elim c.if-has_location.branch [
      | then-has_location+else-target-eq0+in_default w ↦
          answers_some c.args.device c.args.general _ _ _ _ _ q w.if-target-eq0.false (one_holds _ _ w.then-has_location.either) false
          (sym w.descriptors.invariant ∙ no_descriptor c.args.device w.descriptors.rest.now _ w.descriptor_size.ensures.is w.in_default.ensures.cases)
      | else-has_location+else-general w ↦
          answers_nowhere c.args.device c.args.general _ _ _ _ _ q (none_holds _ _ w.if-has_location.false w.if-general.false)
    ])
