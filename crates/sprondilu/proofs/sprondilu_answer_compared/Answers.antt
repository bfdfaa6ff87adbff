-- Ten rows at most are compared, so the word has room for them.
use native.Mathlib.Omega.{arith}
use Rattle.sprondilu.proofs.ComparedWords.{compared_most}
use Rattle.sprondilu.proofs.sprondilu_answer_compared.Goals as goal

pub overflow_mul-result : goal.overflow_mul-result
overflow_mul-result c = let few = compared_most _ _ _ c.answer-answered.ensures.number_value.1 in omega arith

pub overflow_add-result : goal.overflow_add-result
overflow_add-result c = let few = compared_most _ _ _ c.answer-answered.ensures.number_value.1 in omega arith
