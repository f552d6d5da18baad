-- What stands for a refusal where an answer is numbered: errors of any type that convert to a number.
use Rattle.std.specs.Prelude.{ℕ, refl}
use Rattle.std.specs.declared.convert.From as from
use Rattle.std.specs.declared.convert.Into as into
use Rattle.std.specs.contracts.prelude.AnyFrom.TheImpl as any_from
use Rattle.std.specs.contracts.prelude.AnyInto.TheImpl as any_into
use denote.Param.Laws.{Laws, of_field}
use denote.Param.Shared.{copy_shared}
use denote.RattleType.{RattleType}
use denote.Struct.Field.{u8-field}
use denote.Struct.Laws.{u8-laws, u8-copy}
use mir.Syntax.{Dict}
use Rattle.rules.specs.contracts as contracts
use Rattle.rules.proofs as proofs

-- a type of errors, and what number each converts to; the code that does it, or that lets an error go, is spoken of in no contract
pub record Errors : Type 2 where
  pub row : RattleType
  pub laws : Laws row
  pub number : into.Ghosts row.Denot ℕ
  pub code : Dict

-- those of which a number is made by `From`
abbrev pub by_from : (R : RattleType) → Laws R → from.Ghosts ℕ R.Denot → Dict → Errors
by_from R L g d =
    record { row = R; laws = L; number = any_into.ghosts R u8-field.row g d; code = any_into.dict R u8-field.row g d }

-- the code's refusals, and the conversion that the code has for them
abbrev pub refusals : Errors
refusals =
    by_from contracts.Refusal.the_row proofs.Refusal.TheLaws.the_row_laws
    contracts.U8FromRefusal.TheImpl.ghosts contracts.U8FromRefusal.TheImpl.dict

-- bare numbers, each of which converts to itself
abbrev pub numbers : Errors
numbers =
    by_from u8-field.row (of_field u8-field u8-laws refl (copy_shared u8-field u8-copy))
    (any_from.ghosts u8-field.row) (any_from.dict u8-field.row)
