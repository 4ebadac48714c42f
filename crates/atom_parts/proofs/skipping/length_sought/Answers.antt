use Rattle.std.proofs.Common.{◌≡◌, ℕ, ◌-◌, ap, ◌∙◌, arith}
use Rattle.atom_parts.specs.declared.parts.Parts.{Parts}
use Rattle.atom_parts.specs.declared.skipping.Sought.{Sought}
use Rattle.atom_parts.specs.declared.skipping.Sought.TheVariants.{Any, Only, Nothing}
use Rattle.atom_parts.specs.declared.columns.Wanted.TheVariants.{Is}
use Rattle.atom_parts.specs.declared.columns.Value.TheVariants.{Number}
use Rattle.pl_term.specs.Tree.{Chars}
use Rattle.atom_parts.specs.Skipping.{IsBetween, Narrows}
use Rattle.atom_parts.proofs.SkipLaws.{after_differs, before_differs, count_differs, part_differs}
use Rattle.atom_parts.proofs.skipping.length_sought.Goals as goal

between : (text : Chars) (w : Parts) (before n : ℕ) (r : Sought) → w.after ≡ Is (Number n) → IsBetween w.length before n r → Narrows text w before r
between text w before n Any is h = absurd h
between text w before n (Only k) is h =
    λ p same le d. after_differs text w p n is (λ e. h p.count (omega (arith, same, le)) d (e ∙ ap (λ b. w.length - b - p.count) same))
between text w before n Nothing is h =
    λ p same le. after_differs text w p n is (λ e. h p.count (omega (arith, same, le)) (e ∙ ap (λ b. w.length - b - p.count) same))

pub returns-then-n-before : goal.returns-then-n-before
returns-then-n-before c p same le =
    before_differs c.args.text.now c.args.parts p c.in-Some.n c.in-Some.ensures (λ e. c.if-n-before.true (e ∙ same))

pub returns-in-Some-number_in : goal.returns-in-Some-number_in
returns-in-Some-number_in c p same le d =
    count_differs c.args.text.now c.args.parts p c.in-Some-number_in.n c.in-Some-number_in.ensures d

pub returns-in-Some-length_in : goal.returns-in-Some-length_in
returns-in-Some-length_in c p same le d =
    let q = c.in-Some-length_in in
    part_differs c.args.text.now c.args.parts p q.ensures.0 q.ensures.1 q.n q.ensures.2.0 q.ensures.2.1 (omega (arith, le, c.requires)) d

pub returns-in-Some-number_in-2 : goal.returns-in-Some-number_in-2
returns-in-Some-number_in-2 c =
    between c.args.text.now c.args.parts c.args.before c.in-Some-number_in-2.n c.length_before.result c.in-Some-number_in-2.ensures c.length_before.ensures
