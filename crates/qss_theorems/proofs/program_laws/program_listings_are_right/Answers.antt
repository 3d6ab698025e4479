use Rattle.qss_theorems.proofs.Listings.{listings_are_right as law}
use Rattle.qss_theorems.proofs.program_laws.program_listings_are_right.Goals as goal

pub returns : goal.returns
returns c = law
