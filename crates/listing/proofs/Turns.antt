-- What the turns give to their writes, joined, and what is owed after them are what was owed at the start.
use Rattle.std.specs.Result.{result_and}
use Rattle.std.proofs.lemmas.Result.{err_from_is_err_and}
use Rattle.std.proofs.Common.{◌≡◌, ℕ, Result, Ok, Err, is_err, IsOkUnless, IsErrAnd, ◌<◌, ◌+◌, ◌-◌, ◌^◌, Bool, true, false, ◌⊎◌, List, [], ◌++◌, sym, refl, ap, ◌∙◌, inl, inr, true≢false, append_assoc, append-nil, arith}
use Rattle.wire.specs.Choice.{pick}
use Rattle.stream.specs.declared.Failure.{Failure}
use Rattle.stream.specs.declared.Failure.TheVariants.{Reading, Writing}
use Rattle.rules.specs.declared.Settings.{Settings}
use Rattle.rules.specs.Recording.{listing_settings, offers}
use Rattle.listing.specs.declared.Window.{Window}
use Rattle.listing.specs.declared.Walk.{Walk}
use Rattle.listing.specs.Lines.{lines_of, listing}
use Rattle.listing.specs.Walk.{is_unreadable, Left, Gave, Offered, written, owed, Waits, Turned}
use Rattle.listing.specs.Turns.{Turns, begun, turned, Walked, Ended, Listed, Fresh, failure_of}
use Rattle.listing.proofs.Owed.{left_stays, same_offered, gave_owed, owed_waits, owed_end}

pub turns_owed : {c : Settings} {w : Walk} {k : ℕ} {read text : List ℕ} {r : Walk} {q : Result Unit Failure} → Turns c w k read text r q
    → (rest : List ℕ) → Left r.input rest → owed c w (read ++ rest) ≡ text ++ owed c r rest
turns_owed begun rest l = refl
turns_owed {c = c} {w = w} (turned {read = read} {text = text} {r = r} before t) rest l =
    ap (λ (x : List ℕ). owed c w x) (append_assoc read t.took rest)
    ∙ turns_owed before (t.took ++ rest) (t.left rest l)
    ∙ ap (λ (x : List ℕ). text ++ x) (t.same rest l)
    ∙ sym (append_assoc text (written r) _)

-- no turn is made yet
pub walked_none : {c : Settings} {w : Walk} → Walked c w (2 ^ 64 - 1) (Ok tt) w
walked_none = record { read = []; text = []; turns = begun; told = tt }

-- one turn more
pub walked_more : {c : Settings} {w r r' : Walk} {q : Result Unit Failure} {k j : ℕ} → k ≡ j + 1 → Walked c w k (Ok tt) r → Turned c r q r'
    → Walked c w j q r'
walked_more e a t = record { read = _; text = _; turns = turned (rw e at a.turns) t; told = t.told }

-- one turn more, in which nothing failed
pub walked_on : {c : Settings} {w r r' : Walk} {q : Result Unit Failure} {k j : ℕ} → Walked c w k (Ok tt) r → Turned c r q r' → q ≡ Ok tt
    → k ≡ j + 1 → Walked c w j (Ok tt) r'
walked_on a t e f = rw e at (walked_more f a t)

-- all is offered
pub ended_offered : {c : Settings} {w r : Walk} {k : ℕ} → Walked c w k (Ok tt) r → Offered r.input → Ended c w (Ok tt) r
ended_offered {k = k} a o = record { left = k; walked = a; ends = inl o }

-- a turn failed, and that is handed on
pub ended_failed : {c : Settings} {w r r' : Walk} {p q : Result Unit Failure} {k : ℕ} {e : Failure} → Walked c w k (Ok tt) r → Turned c r p r'
    → p ≡ Err e → IsErrAnd q (λ x. x ≡ e) → 0 < k → Ended c w q r'
ended_failed {p = p} {q = q} {k = k} {e = e} a t f i more =
    let m : k ≡ (k - 1) + 1 = omega (arith, more) in
    let x = err_from_is_err_and q i in
    let g : p ≡ q = f ∙ sym (x.1 ∙ ap (λ (x : Failure). Err x) x.2) in
    record { left = k - 1; walked = rw g at (walked_more m a t); ends = inr (inl (rw x.1)) }

-- all is offered: nothing is left
left_nothing : (w : Window) → Offered w → Left w []
left_nothing w a =
    let z : w.end - w.start ≡ 0 = omega (arith, a.1) in
    record { front = rw z; all = λ t. omega arith }

-- the answer of two in a row: a failure of the first stays
joined : (p q : Result Unit Failure) → is_err p ≡ true → result_and p q ≡ p
joined (Ok v) q e = absurd (true≢false (sym e))
joined (Err x) q e = refl

joined_told : (p q : Result Unit Failure) → IsOkUnless p Writing → IsOkUnless q Writing → IsOkUnless (result_and p q) Writing
joined_told (Ok v) q e f = f
joined_told (Err x) q e f = e

-- a failure is told
told : (w : Walk) (q : Result Unit Failure) → failure_of w q ≡ Ok tt → is_err q ≡ true → ⊥
unfolding failure_of pick
told w q e f = go (is_unreadable w.input.rest) e
  where
    go : (t : Bool) → pick t (Err Reading) q ≡ Ok tt → ⊥
    go true e = true≢false (ap is_err e)
    go false e = true≢false (sym f ∙ ap is_err e)

module _
    {final : List ℕ} {s e r : Walk} {p q : Result Unit Failure} (fresh : Fresh s)
    (owes : (recording : List ℕ) → owed listing_settings s recording ≡ listing recording)
    (a : Ended listing_settings s p e) (g : Gave e final r) (k : is_err p ≡ true → q ≡ p) (w : IsOkUnless q Writing) where
  goes_on : (rest : List ℕ) → Left r.input rest
      → listing (a.walked.read ++ rest) ≡ (a.walked.text ++ final) ++ owed listing_settings r rest
  goes_on rest l =
      sym (owes (a.walked.read ++ rest))
      ∙ turns_owed a.walked.turns rest (left_stays e rest g.stays l)
      ∙ ap (λ (x : List ℕ). a.walked.text ++ x) (gave_owed listing_settings e rest g)
      ∙ sym (append_assoc a.walked.text final (owed listing_settings r rest))

  whole : Offered r.input → listing a.walked.read ≡ a.walked.text ++ final
  whole all =
      let end : Left r.input [] = left_nothing r.input all in
      let none : owed listing_settings r [] ≡ [] = owed_end listing_settings r all.0 all.1 end ∙ g.out in
      rw (append-nil a.walked.read, none, append-nil (a.walked.text ++ final)) at (goes_on [] end)

  silent : failure_of r q ≡ Ok tt → Offered r.input ⊎ (a.left ≡ 0)
  silent n = go a.ends
    where
      go : Offered e.input ⊎ ((is_err p ≡ true) ⊎ (a.left ≡ 0)) → Offered r.input ⊎ (a.left ≡ 0)
      go (inl o) = inl (same_offered e.input g.stays.input o)
      go (inr (inl f)) = absurd (told r q n (rw (k f) f))
      go (inr (inr z)) = inr z

  live : {k : ℕ} {read text : List ℕ} {w : Walk} {x : Result Unit Failure} → Turns listing_settings s k read text w x → Waits w
      → (rest : List ℕ) → Left w.input rest
      → listing (read ++ rest) ≡ text ++ lines_of listing_settings w.offset w.state w.unit (offers rest)
  live {read = read} {text = text} {w = w} turns waits rest l =
      sym (owes (read ++ rest))
      ∙ turns_owed turns rest l
      ∙ ap (λ (x : List ℕ). text ++ x) (owed_waits listing_settings w rest waits)

  whole_list : Listed s q r
  whole_list =
      record {
        fresh = fresh;
        end = e;
        stop = p;
        ended = a;
        final = final;
        gave = g;
        kept = k;
        told = w;
        goes_on = goes_on;
        whole = whole;
        silent = silent;
        live = live;
      }

-- the turns from a fresh start to an end, and a write of what their last lines leave, which answered t
pub listed : {c : Settings} {final : List ℕ} {s e r : Walk} {p q : Result Unit Failure} (t : Result Unit Failure) → c ≡ listing_settings
    → Fresh s → ((recording : List ℕ) → owed listing_settings s recording ≡ listing recording) → Ended c s p e → Gave e final r
    → IsOkUnless t Writing → q ≡ result_and p t → Listed s q r
listed {p = p} t i fresh owes a g f j =
    let b = rw i at a in
    whole_list fresh owes b g (λ e. j ∙ joined p t e) (rw j (joined_told p t b.walked.told f))
