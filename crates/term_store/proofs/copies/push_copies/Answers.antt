use Rattle.std.proofs.Common.{◌++◌, ◌+◌, ◌∷◌, [], get_or, length, map, take, pos, refl, sym, ap, ◌∙◌, append_assoc, arith}
use Rattle.std.proofs.Math.Seq.{take-append_seam, take-length}
use Rattle.term_store.specs.declared.words.Word.TheVariants.{Int}
use Rattle.term_store.specs.Blocks.{IsPart, copied}
use Rattle.term_store.specs.Fit.{IsWord}
use Rattle.term_store.specs.Heap.{words_of}
use Rattle.term_store.proofs.Finding.{all_found, more_found}
use Rattle.term_store.proofs.Slicing.{argument_is, arguments_all, arguments_mapped}
use Rattle.term_store.proofs.copies.push_copies.Goals as goal

pub returns-in_err-reserve-clause-kept : goal.returns-in_err-reserve-clause-kept
returns-in_err-reserve-clause-kept c = ap (take (length c.args.args.now.items)) c.in_err-reserve.ensures.items ∙ take-length c.args.args.now.items

pub push_copy-requires-clause-part : goal.push_copy-requires-clause-part
push_copy-requires-clause-part c =
    argument_is (IsPart (record { low = c.args.low; variables = length c.args.known.now.items })) c.args.parts.now.items c.args.head c.loop-i.i _ c.requires.within
    c.loop-i-test.true refl c.requires.parts

pub push_copy-requires-clause-word : goal.push_copy-requires-clause-word
push_copy-requires-clause-word c =
    argument_is (λ w. IsWord c.args.slots c.args.heads (copied c.args.known.now.items c.args.low c.args.above w)) c.args.parts.now.items c.args.head c.loop-i.i _
    c.requires.within c.loop-i-test.true refl c.requires.inside

pub loop-i-preserved : goal.loop-i-preserved
loop-i-preserved c =
    let inv = c.loop-i.invariant in
    let room = inv.room in
    let left = c.push_copy.ensures.room in
    let f = copied c.args.known.now.items c.args.low c.args.above in
    let before = map f (take c.loop-i.i (words_of c.args.parts.now.items c.args.head)) in
    let w = f (get_or c.args.parts.now.items (c.args.head.start + c.loop-i.i) (Int (pos 0))) in
    record {
      copies =
          c.in_ok-push_copy.ensures.items ∙ ap (λ ws. ws ++ w ∷ []) inv.copies ∙ append_assoc c.args.args.now.items before (w ∷ [])
          ∙ ap (λ ws. c.args.args.now.items ++ ws)
          (sym (arguments_mapped f c.args.parts.now.items c.args.head c.loop-i.i w c.requires.within c.loop-i-test.true refl));
      room = omega (arith, room, left);
      found =
          more_found c.args.grounds.now c.args.known.now.items c.args.low c.args.above c.args.before c.args.met.now c.loop-i.any c.loop-i.met c.push_copy.new.any c.push_copy.new.met c.args.parts.now.items
          c.args.head c.loop-i.i (get_or c.args.parts.now.items (c.args.head.start + c.loop-i.i) (Int (pos 0))) c.requires.within c.loop-i-test.true refl inv.found
          c.in_ok-push_copy.ensures.found;
    }

pub returns-in_err-push_copy-clause-kept : goal.returns-in_err-push_copy-clause-kept
returns-in_err-push_copy-clause-kept c =
    ap (take (length c.args.args.now.items)) (c.in_err-push_copy.ensures.items ∙ c.loop-i.invariant.copies)
    ∙ take-append_seam c.args.args.now.items
    (map (copied c.args.known.now.items c.args.low c.args.above) (take c.loop-i.i (words_of c.args.parts.now.items c.args.head)))

pub returns-clause-found : goal.returns-clause-found
returns-clause-found c =
    all_found c.args.grounds.now c.args.known.now.items c.args.low c.args.above c.args.before c.args.met.now c.loop-i.any c.loop-i.met c.args.parts.now.items c.args.head c.loop-i.i
    c.requires.within (omega (arith, c.loop-i-test.false)) c.loop-i.invariant.found

pub returns-clause-ok : goal.returns-clause-ok
returns-clause-ok c =
    c.loop-i.invariant.copies
    ∙ ap (λ ws. c.args.args.now.items ++ map (copied c.args.known.now.items c.args.low c.args.above) ws)
    (arguments_all c.args.parts.now.items c.args.head c.loop-i.i c.requires.within (omega (arith, c.loop-i-test.false)))

pub returns-clause-kept : goal.returns-clause-kept
returns-clause-kept c =
    ap (take (length c.args.args.now.items)) c.loop-i.invariant.copies
    ∙ take-append_seam c.args.args.now.items
    (map (copied c.args.known.now.items c.args.low c.args.above) (take c.loop-i.i (words_of c.args.parts.now.items c.args.head)))
