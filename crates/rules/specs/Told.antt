-- What the code's answers tell, in the papers' words: each refusal has its number.
use Rattle.std.specs.Prelude.{ℕ, ◌≡◌, Result, Ok, Err}
use Rattle.rules.specs.declared.Refusal.{Refusal}
use Rattle.rules.specs.declared.Refusal.TheVariants as refusal
use Rattle.rules.specs.declared.Reception.{Reception}
use Rattle.rules.specs.declared.Reception.TheVariants as reception
use Rattle.rules.specs.declared.Step.{Step as CodeStep}
use Rattle.rules.specs.Answers.{Answer, Delivered, Stored, PassedBy, Refused, Step, Sending, Sent, Unsent}

-- the numbers of docs/ANSWERS.md
unfoldable pub number : Refusal → ℕ
number refusal.Settings = 10
number refusal.State = 11
number refusal.TooShort = 12
number refusal.TableId = 13
number refusal.SectionLength = 14
number refusal.Indicators = 15
number refusal.Crc32 = 16
number refusal.CurrentNextIndicator = 17
number refusal.SectionNumber = 18
number refusal.AddressScrambling = 19
number refusal.PayloadScrambling = 20
number refusal.LastSectionNumber = 21
number refusal.Continuation = 22
number refusal.Room = 23
number refusal.ChecksumForm = 24
number refusal.IpHeader = 25
number refusal.ActionType = 30
number refusal.PlatformIdHash = 31
number refusal.Loops = 32
number refusal.DescriptorLength = 33
number refusal.PieceSize = 50
number refusal.Unit = 51
number refusal.Sections = 52
number refusal.Output = 53
number refusal.IpDatagram = 54

-- of a test: the number of its refusal, 0 where there is none
unfoldable pub refusal_number : Result Unit Refusal → ℕ
refusal_number (Ok _) = 0
refusal_number (Err r) = number r

-- of the receiver
unfoldable pub answer_told : Result Reception Refusal → Answer
answer_told (Ok (reception.Delivered n)) = Delivered n
answer_told (Ok reception.Stored) = Stored
answer_told (Ok reception.PassedBy) = PassedBy
answer_told (Err r) = Refused (number r)

abbrev pub step_told : CodeStep → Step
step_told s = record { answer = answer_told s.answer; state = s.state }

-- of the sender
unfoldable pub sending_told : Result ℕ Refusal → Sending
sending_told (Ok n) = Sent n
sending_told (Err r) = Unsent (number r)

-- what is told names the answer: two of which the same is told are equal. A theorem, shown in proofs/Told.antt
pub record ToldNames : Type 0 where
  pub refusal : (x y : Result Unit Refusal) → refusal_number x ≡ refusal_number y → x ≡ y
  pub answer : (x y : Result Reception Refusal) → answer_told x ≡ answer_told y → x ≡ y
  pub sending : (x y : Result ℕ Refusal) → sending_told x ≡ sending_told y → x ≡ y
