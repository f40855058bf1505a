-- The numbers then in use or the refusal, as a signed number.
use native.Mathlib.Omega.{arith}
use Rattle.ffi.proofs.Codes.{imported_counted}
use Rattle.ffi.proofs.phrase_import_arpa.Goals as goal

pub count_or_refusal-requires : goal.count_or_refusal-requires
count_or_refusal-requires c = let a = c.args in imported_counted a.arpa.now a.spelling.now a.book.now a.used c.import_arpa-reply.result c.import_arpa-reply.ensures.result_value (omega arith)
