use Rattle.std.proofs.Common.{◌≡◌, ◌∙◌, ap, get_or, subst, sym}
use Rattle.term_store.specs.Blocks.{block_heap}
use Rattle.term_store.specs.Fit.{IsIn, no_head}
use Rattle.term_store.specs.declared.words.Word.TheVariants.{Comp}
use Rattle.term_store.proofs.block.first_of.Goals as goal

pub block_head-requires : goal.block_head-requires
block_head-requires c = subst (IsIn (block_heap c.args.block.now)) c.in-Comp.is c.requires

pub returns-in-Comp : goal.returns-in-Comp
returns-in-Comp c k e =
    let both : Comp c.in-Comp.k ≡ Comp k = sym c.in-Comp.is ∙ e in
    let same : c.in-Comp.k ≡ k = cc in
    c.block_head.ensures ∙ ap (λ i. get_or c.args.block.now.heads.items i no_head) same

pub returns-in_default : goal.returns-in_default
returns-in_default c k e = absurd (c.in_default.not-Comp k e)
