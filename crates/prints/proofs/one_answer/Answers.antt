use Rattle.prints.proofs.Once.{one_refusal, not_both}
use Rattle.prints.proofs.Alone.{one_run}
use Rattle.prints.proofs.one_answer.Goals as goal

pub returns : goal.returns
returns c = record { refusal = one_refusal; other = not_both; run = one_run }
