use Rattle.std.proofs.Common.{◌≡◌, ◌+◌, ◌*◌, ◌^◌, ◌<◌, ◌≤◌, ℕ, arith}
use Rattle.std.proofs.lemmas.Grind.{pow_more}
use Rattle.std.proofs.lemmas.Bool.{leb-true, leb-false}
use Rattle.atom_table.proofs.table.AtomTable.has_larger.Goals as goal

pub row_heads-requires : goal.row_heads-requires
row_heads-requires c = let ok = c.args.self.now.words.allowed in let row = c.requires in omega (arith, row.1, ok)

pub returns-clause-has : goal.returns-clause-has
returns-clause-has c = λ yes. let twice : 2 ^ (c.args.row + 1) ≡ 2 ^ c.args.row * 2 = pow_more 2 c.args.row in let heads = c.row_heads.ensures in let row = c.requires in let room : 4 * c.row_heads.result ≤ c.args.self.now.words.size.heads + 256 = leb-true (4 * c.row_heads.result) (c.args.self.now.words.size.heads + 256) yes in
    (omega (arith, twice, row.0), omega (arith, twice, heads, room))

pub returns-clause-lacks : goal.returns-clause-lacks
returns-clause-lacks c = λ no_ ok. let twice : 2 ^ (c.args.row + 1) ≡ 2 ^ c.args.row * 2 = pow_more 2 c.args.row in let heads = c.row_heads.ensures in let over : c.args.self.now.words.size.heads + 256 < 4 * c.row_heads.result = leb-false (4 * c.row_heads.result) (c.args.self.now.words.size.heads + 256) no_ in
    omega (arith, twice, heads, over, ok.1)
