use Rattle.rules.proofs.Records.{set_restated}
use Rattle.boards.proofs.held.restate.Goals as goal

pub returns : goal.returns
returns g c = set_restated c.args.jobs.now c.args.job c.args.state c.index-jobs-job.result c.requires c.index-jobs-job.is
