use Rattle.std.proofs.Common.{refl}
use Rattle.clap.proofs.OnLiterals.{clap_on_literals}
use Rattle.command_line.proofs.rows.load_has_a_seed_and_a_size.Goals as goal

pub returns : goal.returns
unfolding clap_on_literals
returns c = record { least = refl; most = refl; zeros = refl; too_large_seed = refl; too_large_size = refl; no_size = refl; negative = refl; negative_word = refl; no_number = refl; one_word = refl; three_words = refl; option = refl }
