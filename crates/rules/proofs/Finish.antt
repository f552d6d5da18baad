-- Where a unit is finished no run is left open, and exactly its bytes up to its end are handed over, as `up_to` says case by case.
use Rattle.std.proofs.lemmas.Option.{none-some, same_Some}
use Rattle.std.proofs.Common.{ℕ, ◌≤◌, arith, ◌≡◌, ap, refl, sym, ◌∙◌, ◌↔◌, List, length, take, length-take-le, take-take, Option, Some, None}
use Rattle.rules.specs.declared.State.TheVariants.{Idle}
use Rattle.rules.specs.Step.{Outcome, up_to}
use Rattle.rules.specs.Row.{Held, Handed, datagram, handed_by}

abbrev pub handed : Outcome → Handed
handed o = handed_by o.step.answer o.buffer

abbrev pub held : Outcome → Held
held o = record { state = o.step.state; buffer = o.buffer }

-- the n bytes d are the first part of p, up to the end e
pub record Carries (e : Option ℕ) (p : List ℕ) (n : ℕ) (d : List ℕ) : Type 0 where
  pub end : ℕ
  pub ends : e ≡ Some end
  pub bytes : d ≡ take end p
  pub size : n ≡ length d

pub up_to_state : (e : Option ℕ) (b after : List ℕ) → (up_to e b after).step.state ≡ Idle
unfolding up_to
up_to_state (Some n) b after = refl
up_to_state None b after = refl

-- the buffer keeps its length
pub up_to_size : (e : Option ℕ) (b after : List ℕ) (n : ℕ) → length b ≡ n → length after ≡ n → length (up_to e b after).buffer ≡ n
unfolding up_to
up_to_size (Some m) b after n h k = k
up_to_size None b after n h k = h

-- p stands at the start of the buffer after, and the end is within it
pub up_to_hands : (e : Option ℕ) (b after p : List ℕ) → take (length p) after ≡ p → length p ≤ length after → ((m : ℕ) → e ≡ Some m → m ≤ length p)
    → (n : ℕ) (d : List ℕ) → (handed (up_to e b after) ≡ datagram n d) ↔ Carries e p n d
unfolding up_to handed_by
up_to_hands (Some m) b after p is fits within n d =
    let l : m ≤ length p = within m refl in
    let first : take m after ≡ take m p = sym (take-take m (length p) after l) ∙ ap (take m) is in
    let all : length (take m after) ≡ m = length-take-le m after (omega arith) in
    let to : datagram m (take m after) ≡ datagram n d → Carries (Some m) p n d =
    λ q. let n_is : m ≡ n = cc in let d_is : take m after ≡ d = cc in record { end = m; ends = refl; bytes = cc; size = cc } in
    let from : Carries (Some m) p n d → datagram m (take m after) ≡ datagram n d =
    λ q.
    let m_is : m ≡ q.end = same_Some _ _ q.ends in
    let d_is : take m after ≡ d = first ∙ ap (λ (k : ℕ). take k p) m_is ∙ sym q.bytes in
    let n_is : m ≡ n = cc in cc in
    (to, from)
up_to_hands None b after p is fits within n d = (λ q. cc, λ q. absurd (none-some _ q.ends))
