-- Every line of the check has a number other than 0, as computing shows; so a table's parts can be decided one after the other.
use Rattle.std.proofs.Common.{ℕ, ◌≡◌, refl, List, true}
use Rattle.wire.specs.Choice.{both, without}
use Rattle.rules.specs.declared.Form.{Form}
use Rattle.rules.specs.Check.{form_lines, order_lines, shared_lines}

pub form_numbered : (f : Form) (s : List ℕ) → without 0 (form_lines f s) ≡ true
unfolding without both form_lines
form_numbered f s = refl

pub shared_numbered : (f : Form) (s : List ℕ) → without 0 (shared_lines f s) ≡ true
unfolding without both shared_lines form_lines order_lines
shared_numbered f s = refl
