use Rattle.std.proofs.Common.{◌≡◌, ℕ, ◌+◌, ◌-◌, ◌*◌, ◌%◌, List, [], ◌∷◌, ◌++◌, replicate, sym, ap, ◌∙◌, append_assoc, arith}
use Rattle.std.proofs.lemmas.Grind.{common_steps}
use Rattle.atom_words.specs.Layout.{head_word}
use Rattle.atom_words.specs.Board.{laid, gap}
use Rattle.atom_words.specs.Opening.{shut, opening_board}
use Rattle.atom_words.specs.declared.size.Size.{Size}
use Rattle.atom_words.proofs.OpenWords.{slots_open}
use Rattle.atom_words.proofs.opening.opening_words.Goals as goal

all_runs : (w1 w2 w3 w4 w5 w6 w7 r1 r2 r3 r4 r5 r6 r7 : List ℕ) → w1 ≡ (0 ∷ 8 ∷ []) ++ r1 → w2 ≡ w1 ++ r2 → w3 ≡ w2 ++ r3 → w4 ≡ w3 ++ r4 → w5 ≡ w4 ++ r5 → w6 ≡ w5 ++ r6 → w7 ≡ w6 ++ r7
    → w7 ≡ (0 ∷ 8 ∷ r1) ++ ((r2 ++ r3) ++ (r4 ++ (r5 ++ (r6 ++ r7))))
all_runs w1 w2 w3 w4 w5 w6 w7 r1 r2 r3 r4 r5 r6 r7 e1 e2 e3 e4 e5 e6 e7 =
    let f2 : w2 ≡ (0 ∷ 8 ∷ r1) ++ r2 = e2 ∙ ap (λ l. l ++ r2) e1 in
    let f3 : w3 ≡ ((0 ∷ 8 ∷ r1) ++ r2) ++ r3 = e3 ∙ ap (λ l. l ++ r3) f2 in
    let f4 : w4 ≡ (((0 ∷ 8 ∷ r1) ++ r2) ++ r3) ++ r4 = e4 ∙ ap (λ l. l ++ r4) f3 in
    let f5 : w5 ≡ ((((0 ∷ 8 ∷ r1) ++ r2) ++ r3) ++ r4) ++ r5 = e5 ∙ ap (λ l. l ++ r5) f4 in
    let f6 : w6 ≡ (((((0 ∷ 8 ∷ r1) ++ r2) ++ r3) ++ r4) ++ r5) ++ r6 = e6 ∙ ap (λ l. l ++ r6) f5 in
    let f7 : w7 ≡ ((((((0 ∷ 8 ∷ r1) ++ r2) ++ r3) ++ r4) ++ r5) ++ r6) ++ r7 = e7 ∙ ap (λ l. l ++ r7) f6 in
    f7 ∙ simp append_assoc

pub returns : goal.returns
returns c = let z = c.args.size in let begin : c.push-2.new.self.items ≡ 0 ∷ 8 ∷ [] = grind (arith, common_steps) in
    let closed : 2097152 + 4194304 * z.start ≡ head_word 0 1 z.start = omega arith in
    all_runs c.extend.new.words.items c.extend-2.new.words.items c.extend-3.new.words.items c.extend-4.new.words.items c.extend-5.new.words.items c.extend_shut.new.words.items c.extend-6.new.words.items
    (replicate z.engines 0) (replicate 256 0) (replicate (z.heads - 256) (2097152 + 4194304 * z.start)) (replicate (gap z) 0) (replicate (8 * z.fixed) 0) (shut (256 - z.fixed)) (replicate (8 * (z.slots - 256) + 26 * z.slots) 0)
    (c.in_ok-extend.ensures ∙ ap (λ l. l ++ replicate z.engines 0) begin) c.in_ok-extend-2.ensures c.in_ok-extend-3.ensures c.in_ok-extend-4.ensures c.in_ok-extend-5.ensures c.in_ok-extend_shut.ensures c.in_ok-extend-6.ensures
    ∙ (λ i. (0 ∷ 8 ∷ replicate z.engines 0) ++ ((replicate 256 0 ++ replicate (z.heads - 256) (closed i)) ++ (replicate (gap z) 0 ++ sym (slots_open z c.requires) i)))
