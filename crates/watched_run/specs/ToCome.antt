-- What is still to be written of the messages.
--     text_from run watch last more      the messages of the good steps after this one, where the last one was told so many steps before it
--     rest_text run watch last more      the message of the step so many steps after the last one, and none where there is none between
--     watch_until run watch last      the messages up to the last good step, and none where there is no good step
use Rattle.std.specs.Prelude.{ℕ, ◌+◌, ◌-◌, suc, List, [], Option, Some, None}
use Rattle.replay.specs.ToCome.{good_steps}
use Rattle.tick_model.{specs.declared.feed.Run.Run, specs.Texts.records_text}
use Rattle.watched_run.{specs.declared.watch.Watch.Watch, specs.Messages.{gaps, later_records, watch_text}}

abbrev pub text_from : Run → Watch → ℕ → ℕ → List ℕ
text_from run watch last more = records_text (later_records run watch last (gaps watch.every more (good_steps run - suc (last + more))))

abbrev pub rest_text : Run → Watch → ℕ → ℕ → List ℕ
rest_text run watch last more = records_text (later_records run watch last (gaps watch.every more 0))

abbrev pub watch_until : Run → Watch → Option ℕ → List ℕ
watch_until run watch None = []
watch_until run watch (Some last) = watch_text run watch last
