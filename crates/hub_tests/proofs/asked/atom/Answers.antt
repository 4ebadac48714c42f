use Rattle.hub_tests.proofs.HeldNames.{chars_some, codes_some, fail_some, main_some, quotes_some, some_fixed, unknown_some}
use Rattle.hub_tests.proofs.asked.atom.Goals as goal

pub returns-in-Chars : goal.returns-in-Chars
returns-in-Chars c = λ m stand has. some_fixed m stand 60 chars_some

pub returns-in-Codes : goal.returns-in-Codes
returns-in-Codes c = λ m stand has. some_fixed m stand 63 codes_some

pub returns-in-Fail : goal.returns-in-Fail
returns-in-Fail c = λ m stand has. some_fixed m stand 88 fail_some

pub returns-in-Main : goal.returns-in-Main
returns-in-Main c = λ m stand has. some_fixed m stand 115 main_some

pub returns-in-Quotes : goal.returns-in-Quotes
returns-in-Quotes c = λ m stand has. some_fixed m stand 78 quotes_some

pub returns-in-Unknown : goal.returns-in-Unknown
returns-in-Unknown c = λ m stand has. some_fixed m stand 181 unknown_some
