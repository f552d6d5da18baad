-- A section that is not refused has its platform loop and whole pairs after it, and the search stops at the pair that answers.
use Rattle.notification.proofs.Answers.{below, general_is, finding_nobody, answers_at}
use Rattle.notification.specs.Readers.{pairs_offset}
use Rattle.notification_rules.specs.Finding.{refusal}
use Rattle.notification_rules.specs.Loop.{loop_size}
use Rattle.rules.specs.Told.{refusal_number}
use lib.ListN.{length, drop}
use mathlib.Core.Path.{◌≡◌, sym, ◌∙◌}
use native.Mathlib.Omega.{arith}
use Prim.Native.Nat.{◌+◌, ◌<◌}
use Rattle.notification.proofs.find.Goals as goal

pub returns-then-pair-head : goal.returns-then-pair-head
unfolding refusal_number
returns-then-pair-head c = let A = c.args in
    let H = c.checked-head in
    let z : refusal A.s.now ≡ 0 = sym c.in_ok-refusal.ensures in
    let L = c.loop_at-platform in
    let Q = c.search-pair in
    let n : 14 + length L.result.now ≡ pairs_offset H.result.now = omega (arith, L.ensures.size) in
    let q = rw (n, c.has_location.ensures 14 ∙ general_is H.result.now L.result.now L.ensures.is.bytes) at Q.ensures in
    finding_nobody A.device A.s.now H.result.now H.ensures.bytes z Q.result q c.if-pair-head.true

pub returns : goal.returns
unfolding refusal_number
returns c = let A = c.args in
    let H = c.checked-head in
    let z : refusal A.s.now ≡ 0 = sym c.in_ok-refusal.ensures in
    let L = c.loop_at-platform in
    let Q = c.search-pair in
    let n : 14 + length L.result.now ≡ pairs_offset H.result.now = omega (arith, L.ensures.size) in
    let q = rw (n, c.has_location.ensures 14 ∙ general_is H.result.now L.result.now L.ensures.is.bytes) at Q.ensures in
    let T = c.loop_at-target in
    let l : Q.result < length H.result.now = below Q.ensures.turns.inside c.if-pair-head.false in
    let m : Q.result + 2 + length T.result.now ≡ Q.result + loop_size (drop Q.result H.result.now) = omega (arith, T.ensures.size) in
    rw H.ensures.bytes at (answers_at A.device A.s.now H.result.now H.ensures.bytes z Q.result q l _ m)
