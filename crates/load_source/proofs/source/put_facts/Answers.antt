use Rattle.std.proofs.Common.{◌≡◌, ◌++◌, ◌+◌, ◌-◌, ℕ, zero, suc, arith, sym, ap, ap₂, ◌∙◌, append-nil}
use Rattle.load_source.specs.LoadSource.{fact, facts, next_random, value_of}
use Rattle.load_source.proofs.FactLaws.{facts_more}
use Rattle.load_source.proofs.source.put_facts.Goals as goal

pub loop-i-preserved : goal.loop-i-preserved
loop-i-preserved c =
    let i = c.loop-i.i in
    let size = c.args.size in
    let x = c.loop-i.random in
    let before = c.loop-i.text.items in
    let after = c.put_fact.new.text.items in
    let less : size - i ≡ suc (size - (i + 1)) = omega (arith, c.loop-i-test.true) in
    let one : i + 1 + 1 ≡ suc (i + 1) = omega arith in
    let put : after ≡ before ++ fact (i + 1) (value_of (next_random x)) =
    c.in_ok-put_fact.ensures ∙ ap (λ (v : ℕ). before ++ fact (i + 1) v) (c.value_of.ensures ∙ ap value_of c.next_random-random.ensures.number) in
    record {
      bound = c.next_random-random.ensures.bound;
      rest =
          ap₂ (λ (r k : ℕ). after ++ facts (size - (i + 1)) k r) c.next_random-random.ensures.number one
          ∙ facts_more (size - (i + 1)) (size - i) (i + 1) x before (c.args.text.now.items ++ facts size 1 c.args.seed) after less put c.loop-i.invariant.rest;
    }

pub returns : goal.returns
returns c =
    let i = c.loop-i.i in
    let text = c.loop-i.text.items in
    let none : c.args.size - i ≡ zero = omega (arith, c.loop-i-test.false) in
    sym (append-nil text) ∙ ap (λ (n : ℕ). text ++ facts n (i + 1) c.loop-i.random) (sym none) ∙ c.loop-i.invariant.rest
