use Rattle.std.proofs.Common.{◌≡◌, ◌+◌, ◌-◌, ◌≤◌, ◌++◌, length, replicate, take_all, vec_len, ap, ap₂, ◌∙◌, arith}
use Rattle.atom_words.proofs.opening.extend.Goals as goal

pub returns : goal.returns
returns c = let ws = c.args.words.now in let n = c.in-Some.n in let sum : n ≡ length ws.items + c.args.many = omega (arith, c.in-Some.ensures, c.len.ensures, ws.ok.0) in
    let rest : n - vec_len ws ≡ c.args.many = omega (arith, sum, ws.ok.0) in
    c.in_ok-resize.ensures.items ∙ ap₂ ◌++◌ (take_all n ws.items (omega (arith, sum))) (ap (λ k. replicate k c.args.word) rest)
