use Rattle.std.proofs.Common.{refl}
use Rattle.zsv_answer.proofs.Pointing.{list_answers, list_authorities}
use Rattle.zsv_answer.proofs.response.OneList.written.Goals as goal

pub returns-then-self : goal.returns-then-self
returns-then-self c = λ asked records counted are. rw c.if-self.true (list_answers asked _ records counted refl are)

pub returns : goal.returns
returns c = λ asked records counted are. rw c.if-self.false (list_authorities asked _ records counted refl are)
