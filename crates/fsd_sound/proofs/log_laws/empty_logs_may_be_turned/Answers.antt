use Rattle.fsd_sound.proofs.EmptyLaws.{empty_is_either, own_log_turned}
use Rattle.fsd_sound.proofs.log_laws.empty_logs_may_be_turned.Goals as goal

pub returns-clause-either : goal.returns-clause-either
returns-clause-either c = λ l a h windows i few fits borne both own. empty_is_either l few a h windows i borne own both fits

pub returns-clause-own : goal.returns-clause-own
returns-clause-own c = λ l a h weak i j fits small low front roots own. own_log_turned l a h weak i j fits small low front roots own
