use Rattle.bucket_rows.proofs.TwoCycles.{exact}
use Rattle.bucket_rows.proofs.ToldSteps.{passes_told}
use Rattle.bucket_rows.proofs.laws.two_cycles.Goals as goal

pub returns : goal.returns
returns c = record { exact = exact c.args.size; passes = passes_told c.args.size }
