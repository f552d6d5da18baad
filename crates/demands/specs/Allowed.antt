-- A contract as a caller meets it, and what holds of everything that it allows.
use Rattle.std.specs.Prelude.{ℕ, List}
use contract.Lifetimes.{Lfts}
use denote.Triple.Clauses.{AtExit}
use borrow.Fn.Kinds.{ParamKind, ResultKind, Dens, res_t, ended_of}

-- a claim about a call of a function with n lifetimes, parameters ps and result r: its arguments, its result and what is lent, at exit
abbrev pub Contract : (n : ℕ) → List (ParamKind n) → ResultKind n → Type 1
Contract n ps r = (κs : Lfts n) → Dens κs ps → (res_t r κs).Denot → AtExit (ended_of n ps r) κs → Type 0

-- an open function; `Learnt` is its contract itself, not a copy: what a caller learns
pub record Function : Type 3 where
  pub lifetimes : ℕ
  pub ps : List (ParamKind lifetimes)
  pub r : ResultKind lifetimes
  pub Learnt : Contract lifetimes ps r

-- of a contract, with the parameters and the result that it is about
abbrev pub function : {n : ℕ} (ps : List (ParamKind n)) (r : ResultKind n) → Contract n ps r → Function
function {n} ps r Learnt = record { lifetimes = n; ps = ps; r = r; Learnt = Learnt }

abbrev pub Args : (f : Function) → Lfts f.lifetimes → Type 0
Args f κs = Dens κs f.ps

abbrev pub Result : (f : Function) → Lfts f.lifetimes → Type 0
Result f κs = (res_t f.r κs).Denot

abbrev pub Exit : (f : Function) → Lfts f.lifetimes → Type 0
Exit f κs = AtExit (ended_of f.lifetimes f.ps f.r) κs

-- the claim holds of every call that the contract allows
abbrev pub Allowed : (f : Function) → ((κs : Lfts f.lifetimes) → Args f κs → Result f κs → Exit f κs → Type 0) → Type 0
Allowed f Claim =
    (κs : Lfts f.lifetimes) (a : Args f κs) (z : Result f κs) (e : Exit f κs) → f.Learnt κs a z e → Claim κs a z e

-- any two calls with the same arguments that the contract allows are the same in what is looked at: results z and y, lent things e and d
abbrev pub AnyTwo : (f : Function)
    → ((κs : Lfts f.lifetimes) → Result f κs → Result f κs → Exit f κs → Exit f κs → Type 0) → Type 0
AnyTwo f Same =
    (κs : Lfts f.lifetimes) (a : Args f κs) (z y : Result f κs) (e d : Exit f κs)
    → f.Learnt κs a z e → f.Learnt κs a y d → Same κs z y e d
