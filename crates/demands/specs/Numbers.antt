-- What the functions answer that number an answer: where a refusal is one of the code's, the papers' number; where it is a bare number, any of 0
-- to 255, that number.
use Rattle.std.specs.Prelude.{ℕ, ◌≡◌, Option, Some, None, Ok, Err, Result as CodeResult}
use Rattle.rules.specs.declared.Reception.{Reception}
use Rattle.rules.specs.declared.Reception.TheVariants as reception
use Rattle.rules.specs.Answers.{Answer, Delivered, Stored, PassedBy, Refused, Sending, Sent, Unsent}
use Rattle.rules.specs.Send as send
use Rattle.rules.specs.Step as step
use Rattle.rules.specs.Told.{answer_told, sending_told}
use Rattle.notification_rules.specs.Answers.{Finding, Found, Nobody, Refused as FindingRefused}
use Rattle.notification_rules.specs.Finding as int_finding
use Rattle.notification_rules.specs.Told.{finding_told}
use Rattle.demands.specs.Allowed.{Allowed}
use Rattle.demands.specs.Errors.{refusals, numbers}
use Rattle.demands.specs.Functions as contracts

-- ---- what is told where a refusal is a bare number
-- of the receiver
unfoldable pub answer_numbered : CodeResult Reception ℕ → Answer
answer_numbered (Ok (reception.Delivered n)) = Delivered n
answer_numbered (Ok reception.Stored) = Stored
answer_numbered (Ok reception.PassedBy) = PassedBy
answer_numbered (Err n) = Refused n

-- of the sender
unfoldable pub sending_numbered : CodeResult ℕ ℕ → Sending
sending_numbered (Ok n) = Sent n
sending_numbered (Err n) = Unsent n

-- of the INT reader
unfoldable pub finding_numbered : CodeResult (Option ℕ) ℕ → Finding
finding_numbered (Ok (Some n)) = Found n
finding_numbered (Ok None) = Nobody
finding_numbered (Err n) = FindingRefused n

pub record Numbers : Type 0 where
  -- of the code's refusals
  pub number_of : Allowed (contracts.number_of refusals) (λ κs (answer, _) z e. z ≡ step.number_of (answer_told answer))
  pub length_of : Allowed (contracts.length_of refusals) (λ κs (answer, _) z e. z ≡ step.length_of (answer_told answer))
  pub sending_number : Allowed (contracts.sending_number refusals) (λ κs (sending, _) z e. z ≡ send.sending_number (sending_told sending))
  pub sending_length : Allowed (contracts.sending_length refusals) (λ κs (sending, _) z e. z ≡ send.sending_length (sending_told sending))
  pub finding_number : Allowed (contracts.finding_number refusals)
      (λ κs (finding, _) z e. z ≡ int_finding.finding_number (finding_told finding))
  pub finding_offset : Allowed (contracts.finding_offset refusals)
      (λ κs (finding, _) z e. z ≡ int_finding.finding_offset (finding_told finding))
  -- of bare numbers
  pub number_of_bare : Allowed (contracts.number_of numbers) (λ κs (answer, _) z e. z ≡ step.number_of (answer_numbered answer))
  pub length_of_bare : Allowed (contracts.length_of numbers) (λ κs (answer, _) z e. z ≡ step.length_of (answer_numbered answer))
  pub sending_number_bare : Allowed (contracts.sending_number numbers)
      (λ κs (sending, _) z e. z ≡ send.sending_number (sending_numbered sending))
  pub sending_length_bare : Allowed (contracts.sending_length numbers)
      (λ κs (sending, _) z e. z ≡ send.sending_length (sending_numbered sending))
  pub finding_number_bare : Allowed (contracts.finding_number numbers)
      (λ κs (finding, _) z e. z ≡ int_finding.finding_number (finding_numbered finding))
  pub finding_offset_bare : Allowed (contracts.finding_offset numbers)
      (λ κs (finding, _) z e. z ≡ int_finding.finding_offset (finding_numbered finding))
