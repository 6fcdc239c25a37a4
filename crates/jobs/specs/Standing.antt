-- How a job stands, told in words.
use Rattle.std.specs.Prelude.{ℕ, List, ◌++◌, codes, decimal}
use Rattle.jobs.specs.declared.State.{State}
use Rattle.jobs.specs.declared.State.TheVariants.{Waiting, Running, Done}

-- how a job stands, and the bench that it runs on; 0 unless it runs
abbrev pub state_of : State → List ℕ
state_of Waiting = codes "waiting 0"
state_of (Running b) = codes "running " ++ decimal b
state_of Done = codes "done 0"
