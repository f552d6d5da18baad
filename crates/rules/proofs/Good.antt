-- The test of the settings holds exactly where the settings are good, since it compares both bounds of each.
use Rattle.std.proofs.Common.{◌≡◌, ◌↔◌, true, le-leb, leb-true}
use Rattle.wire.specs.Choice.{both}
use Rattle.wire.proofs.Choice.{both_true}
use Rattle.rules.specs.declared.Settings.{Settings}
use Rattle.rules.specs.Meaning.{Good}
use Rattle.rules.specs.Step.{good_settings}

pub good_is : (c : Settings) → (good_settings c ≡ true) ↔ Good c
unfolding good_settings both
good_is c = (
  λ p.
      let t = both_true _ _ p in
      let r = both_true _ _ t.0 in
      let l = both_true _ _ t.1 in
      record { range1 = leb-true _ _ r.0; range6 = leb-true _ _ r.1; limit1 = leb-true _ _ l.0; limit255 = leb-true _ _ l.1 },
  λ g. rw (le-leb _ _ g.range1, le-leb _ _ g.range6, le-leb _ _ g.limit1, le-leb _ _ g.limit255),
)
