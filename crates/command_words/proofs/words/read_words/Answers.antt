use Rattle.std.proofs.Common.{◌∙◌, ap}
use Rattle.clap.specs.Simple.{is_simple}
use Rattle.fsd_runs.specs.Words.{entered_request, image_word}
use Rattle.command_words.proofs.WordLaws.{is_set_free, path_refused, path_taken, request_refused, request_taken}
use Rattle.command_words.proofs.words.read_words.Goals as goal

pub returns-in-Ok : goal.returns-in-Ok
returns-in-Ok c =
    let set_is = c.in_ok-command_set.ensures in
    let found = c.in-Ok.ensures.matches (ap is_simple set_is) in
    let none = c.in-Ok.ensures.kinds (is_set_free _ set_is) in
    record {
      request = c.asked_by.ensures.request ∙ ap entered_request found.1 ∙ request_taken _ _ set_is none;
      image = c.asked_by.ensures.image ∙ ap image_word found.1 ∙ path_taken _ _ set_is none;
    }

-- the words are refused for no want of memory
pub returns : goal.returns
returns c =
    let set_is = c.in_ok-command_set.ensures in
    record {
      request = c.outside.ensures.request ∙ request_refused _ _ set_is (λ t. c.in_default.not-OutOfMemory (c.kind.ensures ∙ c.in-Err.ensures.passes t));
      image = c.outside.ensures.image ∙ path_refused _ _ set_is (λ t. c.in_default.not-OutOfMemory (c.kind.ensures ∙ c.in-Err.ensures.passes t));
    }
