-- The offer is within the bytes at hand, and what is done with it is what its definition says.
use Rattle.std.proofs.Common.{◌≡◌, ◌++◌, sym, refl, ap, ◌∙◌, arith, take, length-take-le}
use Rattle.rules.specs.Recording.{offer_length}
use Rattle.rules.specs.Answers.{Step}
use Rattle.rules.proofs.Offer.{offer_within}
use Rattle.listing.specs.Text.{line}
use Rattle.listing.specs.Walk.{at_hand, offered}
use Rattle.listing.proofs.Owed.{stop_within, offer_front}
use Rattle.listing.proofs.Walk.serve.Goals as goal

pub slice_bounds-receive-end : goal.slice_bounds-receive-end
slice_bounds-receive-end c =
    let hand = c.at_hand-hand.result.now in
    sym (length-take-le _ hand (omega (arith, c.offer_length-n.ensures, offer_within hand)))

pub overflow_add-self : goal.overflow_add-self
overflow_add-self c =
    let w = c.args.self.now.input in
    let n : c.offer_length-n.result ≡ offer_length (at_hand w) = c.offer_length-n.ensures ∙ ap offer_length c.at_hand-hand.ensures in
    record { fits = omega (arith, n, stop_within w, w.within, c.well_formed) }

pub invariant_of-self : goal.invariant_of-self
invariant_of-self c =
    let w = c.args.self.now.input in
    let n : c.offer_length-n.result ≡ offer_length (at_hand w) = c.offer_length-n.ensures ∙ ap offer_length c.at_hand-hand.ensures in
    record { order = omega (arith, n, stop_within w); within = w.within }

pub returns : goal.returns
returns c =
    let w = c.args.self.now.input in
    let n : c.offer_length-n.result ≡ offer_length (at_hand w) = c.offer_length-n.ensures ∙ ap offer_length c.at_hand-hand.ensures in
    let offer : take c.offer_length-n.result c.at_hand-hand.result.now ≡ offered w = rw (n, c.at_hand-hand.ensures) (offer_front w) in
    let done = rw offer at c.receive-step.ensures in
    record {
      bytes = refl;
      start = rw n;
      end = refl;
      rest = refl;
      offset = rw n;
      state = ap (λ (s : Step). s.state) done.step;
      unit = done.buffer;
      text = c.put_line.ensures ∙ ap (λ (s : Step). c.args.self.now.output.bytes ++ line c.args.self.now.offset s.answer) done.step;
    }
