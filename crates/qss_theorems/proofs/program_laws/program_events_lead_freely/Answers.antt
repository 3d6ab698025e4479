use Rattle.qss_theorems.proofs.Courses.{events_lead_freely as law}
use Rattle.qss_theorems.proofs.program_laws.program_events_lead_freely.Goals as goal

pub returns : goal.returns
returns c = law
