-- The ghost event that a call records.
use Rattle.mu_io.specs.Events.{Event, opened, gave, open_failed, read_failed, took, refused}
use Rattle.mu_io.specs.declared.call_log.Call.{Call}
use Rattle.mu_io.specs.declared.call_log.Call.TheVariants as calls

abbrev pub event_of : Call → Event
event_of (calls.Opened name) = opened name.now
event_of (calls.Gave bytes) = gave bytes.now
event_of (calls.OpenFailed name) = open_failed name.now
event_of calls.ReadFailed = read_failed
event_of (calls.Took bytes) = took bytes.now
event_of calls.Refused = refused
