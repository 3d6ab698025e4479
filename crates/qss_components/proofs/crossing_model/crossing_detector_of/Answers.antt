-- The detector has the form's value and its speed.
use Rattle.qss_components.proofs.crossing_model.crossing_detector_of.Goals as goal

pub crossing_speed_by-speed-requires-clause-slow : goal.crossing_speed_by-speed-requires-clause-slow
crossing_speed_by-speed-requires-clause-slow c k d inside = (c.requires.lines k d inside).slow
