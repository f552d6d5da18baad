-- What is read of a packet, in document 01's numbers.
use Rattle.std.specs.Prelude.{ℕ, Bool}

-- The answer, 5 or the number of a refusal; PTS_extension_flag and output_data_rate_flag; PTS_extension and output_data_rate,
-- 0 where unflagged; and where in the packet the data begins and ends. A refusal has zeros after its number.
pub record Reading : Type 0 where
  pub answer : ℕ
  pub extended : Bool
  pub rated : Bool
  pub extension : ℕ
  pub rate : ℕ
  pub offset : ℕ
  pub end : ℕ
