-- The derived `==` of two keys and the definition's test are each true where the keys are equal.
use Rattle.std.proofs.Common.{◌≡◌, true, rules}
use Rattle.std.specs.Cmp.Derive.{one_truth}
use Rattle.rules.specs.contracts.KeyPartialEq.TheImpl as key_eq
use Rattle.rules.specs.contracts.KeyEq.TheImpl.Laws.{laws-law}
use Rattle.rules.specs.declared.Key.{Key}
use Rattle.rules.specs.Step.{same_key}
use Rattle.rules.proofs.Keys.{same_key_is, key_same}

pub compared : (a b : Key) → same_key a b ≡ (key_eq.ghosts).eq a b
compared a b =
    one_truth _ _ (λ t. rw (same_key_is a b t) (laws-law.refl b))
    (λ (t : (key_eq.ghosts).eq a b ≡ true). key_same a b (search rules))
