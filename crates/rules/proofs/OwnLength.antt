-- A datagram's header is among its own bytes, so what the joined payloads say of their first part, that part says of itself.
use Rattle.std.proofs.Common.{ℕ, ◌+◌, ◌≤◌, ◌<◌, arith, ◌≡◌, ap, sym, ◌∙◌, inl, inr, List, ◌++◌, false, length, length-append, take, get_or-take, length-take-le, ne_eqb}
use Rattle.wire.specs.Bytes.{bit, bits, byte_at, number_at}
use Rattle.rules.specs.declared.Settings.{Settings}
use Rattle.rules.specs.Demand3.{OwnLength}
use Rattle.rules.specs.Row.{handed_by, handed_over, Held, section}
use Rattle.rules.specs.Section.{llc_snap_flag, payload}
use Rattle.rules.specs.Step.{finish, joined_with, keep, laid, Outcome, room}
use Rattle.rules.specs.UnitEnd.{BeginsWith, Says, unit_end, UnitLength}
use Rattle.rules.proofs.After.{by_step}
use Rattle.rules.proofs.Due.{pick_case}
use Rattle.rules.proofs.Finish.{Carries, up_to_hands, handed}
use Rattle.rules.proofs.Track.{laid_length, laid_take, room_bounds}
use Rattle.rules.proofs.UnitEnd.{end_within_is, unit_ends}

-- the first n bytes say what the whole does, if the header is among them
byte_kept : (p : List ℕ) (n i : ℕ) → i < n → byte_at (take n p) i ≡ byte_at p i
byte_kept p n i h = get_or-take n p i 0 h

number_kept : (p : List ℕ) (n i : ℕ) → i + 1 < n → number_at 2 (take n p) i ≡ number_at 2 p i
unfolding number_at
number_kept p n i h = rw (byte_kept p n i (omega arith), byte_kept p n (i + 1) h)

says_kept : (p : List ℕ) (h n : ℕ) → h ≤ n → Says p h n → Says (take n p) h n
says_kept p h n l (inl w) =
    inl (ap (bits 7 4) (byte_kept p n 0 (omega (arith, w.1))) ∙ w.0, w.1, w.2 ∙ sym (number_kept p n 2 (omega (arith, w.1))))
says_kept p h n l (inr w) =
    inr (ap (bits 7 4) (byte_kept p n 0 (omega (arith, w.1))) ∙ w.0, w.1, w.2 ∙ ap (λ (k : ℕ). 40 + k) (sym (number_kept p n 4 (omega (arith, w.1)))))

begins_itself : (p : List ℕ) (n : ℕ) → BeginsWith p n → BeginsWith (take n p) n
begins_itself p n w =
    record { header = w.header; says = says_kept p w.header n w.least w.says; least = w.least; most = omega (arith, length-take-le n p w.most) }

carried_own : (p : List ℕ) (n : ℕ) (u : List ℕ) → Carries (unit_end false p) p n u → (n ≡ length u) × BeginsWith u n
unfolding UnitLength
carried_own p n u k =
    let begins : BeginsWith p k.end = (unit_ends false p k.end).0 k.ends in
    let long : n ≡ k.end = k.size ∙ ap length k.bytes ∙ length-take-le k.end p begins.most in
    (k.size, rw (long, k.bytes) (begins_itself p k.end begins))

module _ (s b : List ℕ) where
  abbrev Own : Outcome → Type 0
  Own o = OwnLength s (handed o)

  flag_off : bit 1 (byte_at s 5) ≡ 0 → llc_snap_flag s ≡ false
  unfolding llc_snap_flag
  flag_off off = ne_eqb (bit 1 (byte_at s 5)) 1 (λ one. omega (arith, one, off))

  finished : (f : ℕ) → f + length (payload s) ≤ length b → Own (finish f s b)
  unfolding finish joined_with
  finished f fits off n u q =
      let p : List ℕ = take f b ++ payload s in
      let size : length p ≡ f + length (payload s) = length-append (take f b) (payload s) ∙ omega (arith, length-take-le f b (omega arith)) in
      let first : take (length p) (laid f s b) ≡ p = ap (λ (k : ℕ). take k (laid f s b)) size ∙ laid_take f s b fits in
      let room : length p ≤ length (laid f s b) = omega (arith, size, laid_length f s b fits) in
      carried_own p n u
      (rw (flag_off off) at ((up_to_hands (unit_end (llc_snap_flag s) p) b (laid f s b) p first room (end_within_is (llc_snap_flag s) p) n u).0 q))

  kept : (f : ℕ) → f + length (payload s) ≤ room b → Own (keep f s b)
  unfolding keep handed_by
  kept f fits =
      pick_case Own _ _ _ (λ _. finished f (omega (arith, (room_bounds b).1))) (λ _ off n u q. cc)

pub own_length : (c : Settings) (h : Held) (s : List ℕ) → OwnLength s (handed_over c h (section s))
unfolding handed_over handed_by
own_length c h s =
    by_step h.state s h.buffer (Own s h.buffer) (λ m r off n u q. cc) (λ off n u q. cc)
    (λ f e fits. kept s h.buffer f fits) c
