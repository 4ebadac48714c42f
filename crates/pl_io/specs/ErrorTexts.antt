-- How the errors are printed.
use Rattle.std.specs.Prelude.{ℕ, List, codes}
use Rattle.pl_io.specs.declared.failed.ReadAllError.{ReadAllError}
use Rattle.pl_io.specs.declared.failed.ReadAllError.TheVariants.{Failed, Memory}

abbrev pub read_all_error_text : ReadAllError → List ℕ
read_all_error_text Failed = codes "a read failed"
read_all_error_text Memory = codes "out of memory"
