-- What the code's answers tell names them: two answers of which the same is told are equal.
use Rattle.std.proofs.Common.{ℕ, ◌≡◌, ◌≢◌, eqb, Result, Ok, Err, refl, ap, sym, ◌∙◌, arith}
use Rattle.wire.specs.Choice.{pick}
use Rattle.rules.specs.declared.Refusal.{Refusal}
use Rattle.rules.specs.declared.Refusal.TheVariants as refusal
use Rattle.rules.specs.declared.Reception.{Reception}
use Rattle.rules.specs.declared.Reception.TheVariants as reception
use Rattle.rules.specs.declared.Step.{Step as CodeStep}
use Rattle.rules.specs.Answers.{Answer, Delivered, Stored, PassedBy, Refused, Step, Sending, Sent, Unsent}
use Rattle.rules.specs.Told.{number, refusal_number, answer_told, step_told, sending_told, ToldNames}

-- the refusal that has the number n
unfoldable named : ℕ → Refusal
named n =
    pick (eqb n 10) refusal.Settings
    (pick (eqb n 11) refusal.State
    (pick (eqb n 12) refusal.TooShort
    (pick (eqb n 13) refusal.TableId
    (pick (eqb n 14) refusal.SectionLength
    (pick (eqb n 15) refusal.Indicators
    (pick (eqb n 16) refusal.Crc32
    (pick (eqb n 17) refusal.CurrentNextIndicator
    (pick (eqb n 18) refusal.SectionNumber
    (pick (eqb n 19) refusal.AddressScrambling
    (pick (eqb n 20) refusal.PayloadScrambling
    (pick (eqb n 21) refusal.LastSectionNumber
    (pick (eqb n 22) refusal.Continuation
    (pick (eqb n 23) refusal.Room
    (pick (eqb n 24) refusal.ChecksumForm
    (pick (eqb n 25) refusal.IpHeader
    (pick (eqb n 30) refusal.ActionType
    (pick (eqb n 31) refusal.PlatformIdHash
    (pick (eqb n 32) refusal.Loops
    (pick (eqb n 33) refusal.DescriptorLength
    (pick (eqb n 50) refusal.PieceSize
    (pick (eqb n 51) refusal.Unit
    (pick (eqb n 52) refusal.Sections
    (pick (eqb n 53) refusal.Output refusal.IpDatagram)))))))))))))))))))))))

named_is : (r : Refusal) → named (number r) ≡ r
unfolding named number pick
named_is refusal.Settings = refl
named_is refusal.State = refl
named_is refusal.TooShort = refl
named_is refusal.TableId = refl
named_is refusal.SectionLength = refl
named_is refusal.Indicators = refl
named_is refusal.Crc32 = refl
named_is refusal.CurrentNextIndicator = refl
named_is refusal.SectionNumber = refl
named_is refusal.AddressScrambling = refl
named_is refusal.PayloadScrambling = refl
named_is refusal.LastSectionNumber = refl
named_is refusal.Continuation = refl
named_is refusal.Room = refl
named_is refusal.ChecksumForm = refl
named_is refusal.IpHeader = refl
named_is refusal.ActionType = refl
named_is refusal.PlatformIdHash = refl
named_is refusal.Loops = refl
named_is refusal.DescriptorLength = refl
named_is refusal.PieceSize = refl
named_is refusal.Unit = refl
named_is refusal.Sections = refl
named_is refusal.Output = refl
named_is refusal.IpDatagram = refl

-- a number is that of one refusal
pub number_same : (x y : Refusal) → number x ≡ number y → x ≡ y
number_same x y e = sym (named_is x) ∙ ap named e ∙ named_is y

-- 0 is that of none
pub numbered : (r : Refusal) → number r ≢ 0
unfolding number named pick
numbered r e =
    let last : number (named (number r)) ≡ 54 = ap (λ n. number (named n)) e in
    let same : number (named (number r)) ≡ number r = ap number (named_is r) in
    omega (arith, last, same, e)

pub refusal_number_same : (x y : Result Unit Refusal) → refusal_number x ≡ refusal_number y → x ≡ y
unfolding refusal_number
refusal_number_same (Ok _) (Ok _) e = refl
refusal_number_same (Ok _) (Err r) e = absurd (numbered r (sym e))
refusal_number_same (Err r) (Ok _) e = absurd (numbered r e)
refusal_number_same (Err r) (Err q) e = ap Err (number_same r q e)

-- the code's answer of which this is told
unfoldable answer_named : Answer → Result Reception Refusal
answer_named (Delivered n) = Ok (reception.Delivered n)
answer_named Stored = Ok reception.Stored
answer_named PassedBy = Ok reception.PassedBy
answer_named (Refused n) = Err (named n)

answer_named_is : (a : Result Reception Refusal) → answer_named (answer_told a) ≡ a
unfolding answer_named answer_told
answer_named_is (Ok (reception.Delivered n)) = refl
answer_named_is (Ok reception.Stored) = refl
answer_named_is (Ok reception.PassedBy) = refl
answer_named_is (Err r) = ap Err (named_is r)

pub answer_same : (x y : Result Reception Refusal) → answer_told x ≡ answer_told y → x ≡ y
answer_same x y e = sym (answer_named_is x) ∙ ap answer_named e ∙ answer_named_is y

pub step_same : (x y : CodeStep) → step_told x ≡ step_told y → x ≡ y
step_same x y e =
    rw (answer_same x.answer y.answer (ap (λ (s : Step). s.answer) e), ap (λ (s : Step). s.state) e) refl

unfoldable sending_named : Sending → Result ℕ Refusal
sending_named (Sent n) = Ok n
sending_named (Unsent n) = Err (named n)

sending_named_is : (a : Result ℕ Refusal) → sending_named (sending_told a) ≡ a
unfolding sending_named sending_told
sending_named_is (Ok n) = refl
sending_named_is (Err r) = ap Err (named_is r)

pub sending_same : (x y : Result ℕ Refusal) → sending_told x ≡ sending_told y → x ≡ y
sending_same x y e = sym (sending_named_is x) ∙ ap sending_named e ∙ sending_named_is y

pub told_names : ToldNames
told_names = record { refusal = refusal_number_same; answer = answer_same; sending = sending_same }
