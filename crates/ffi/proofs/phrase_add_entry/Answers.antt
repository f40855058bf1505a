-- The numbers then in use or the refusal, as a signed number.
use native.Mathlib.Omega.{arith}
use Rattle.ffi.proofs.Codes.{added_counted}
use Rattle.ffi.proofs.phrase_add_entry.Goals as goal

pub count_or_refusal-requires : goal.count_or_refusal-requires
count_or_refusal-requires c = let a = c.args in added_counted a.book.now a.used a.line.now c.add_entry-reply.result c.add_entry-reply.ensures.result_value (omega arith)
