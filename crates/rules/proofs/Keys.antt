-- The test of two keys holds exactly where the keys are equal, since it compares every field.
use Rattle.std.proofs.Math.Bool.{beq}
use Rattle.std.proofs.Common.{◌≡◌, refl, Bool, true, false, eqb-true, eq-eqb}
use Rattle.wire.specs.Choice.{both}
use Rattle.rules.specs.declared.Key.{Key}
use Rattle.rules.specs.Step.{same_key}
use Rattle.wire.proofs.Choice.{both_true}
use Rattle.rules.proofs.Compared.{compares_all, same_self}

flag_true : (t u : Bool) → beq t u ≡ true → t ≡ u
flag_true true true p = refl
flag_true true false p = cc
flag_true false true p = cc
flag_true false false p = refl

flag_refl : (t : Bool) → beq t t ≡ true
flag_refl true = refl
flag_refl false = refl

pub same_key_is : (a d : Key) → same_key a d ≡ true → a ≡ d
unfolding same_key
same_key_is a d p =
    let parts = both_true _ _ p in
    let numbers = both_true _ _ parts.1 in
    let address : a.address ≡ d.address = (compares_all a.address d.address).0 parts.0 in
    let last : a.last ≡ d.last = eqb-true a.last d.last numbers.0 in
    let llc_snap : a.llc_snap ≡ d.llc_snap = flag_true a.llc_snap d.llc_snap numbers.1 in
    λ i. record { address = address i; last = last i; llc_snap = llc_snap i }

pub key_same : (a d : Key) → a ≡ d → same_key a d ≡ true
unfolding same_key both
key_same a d p = rw (p, same_self 6 d.address, eq-eqb d.last d.last refl, flag_refl d.llc_snap)
