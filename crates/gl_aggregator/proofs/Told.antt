-- What a tell wrote, and what the second half of a visit gives of it.
use Rattle.std.proofs.Common.{◌≡◌, ℕ, ◌<◌, List, ◌++◌, length, take, drop, Bool, true, false, Option, Some, None, ap, ◌∙◌, sym, append_assoc}
use Rattle.std.specs.Prelude.{if◌then◌else◌}
use Rattle.std.proofs.lemmas.List.{take_at}
use Rattle.gl_base.specs.declared.limits.TheConstants.{PLACES}
use Rattle.gl_core.specs.Device.{OneEntry, core}
use Rattle.gl_core.specs.Kept.{Kept, StandsFor}
use Rattle.gl_model.specs.Entries.{is_done}
use Rattle.gl_model.specs.Machine.{bytes_of, reply_of}
use Rattle.gl_model.specs.Parts.{in_tell}
use Rattle.gl_model.specs.Values.{bits_in}
use Rattle.gl_model.specs.Written.{LegalRepliesTellLengths, numbered_command_writes}
use Rattle.gl_model.specs.declared.call.Call.{Call}
use Rattle.gl_model.specs.declared.gift.Gift.{Gift}
use Rattle.gl_model.specs.declared.reply.Reply.{Reply}
use Rattle.gl_rule.specs.declared.view.View.{View}
use Rattle.gl_uapi.specs.Command.{command_of}
use Rattle.gl_uapi.specs.declared.commands.Command.{Command}
use Rattle.gl_uapi.specs.declared.commands.Command.TheVariants.{GetValues}
use Rattle.gl_uapi.specs.declared.layout.TheConstants.{LINE_VALUES_SIZE}
use Rattle.gl_world.specs.History.{Legal, fold}
use Rattle.gl_aggregator.specs.Visiting.{Ends, IsAsking, WasTold}
use Rattle.gl_aggregator.specs.declared.commands.Asking.{Asking}

-- a buffer begins with what was written
pub read_back : (wrote old new out rest : List ℕ) → length wrote ≡ LINE_VALUES_SIZE → new ≡ wrote ++ drop (length wrote) old → out ≡ new ++ rest → take LINE_VALUES_SIZE out ≡ wrote
read_back wrote old new out rest long new_is out_is =
    ap (λ l. take LINE_VALUES_SIZE l) (out_is ∙ (ap (λ l. l ++ rest) new_is ∙ append_assoc wrote (drop (length wrote) old) rest)) ∙ take_at wrote (drop (length wrote) old ++ rest) LINE_VALUES_SIZE long

-- a GET_VALUES that was done wrote its whole structure
written_by : (command : Option Command) (len : ℕ) (reply : Reply) → command ≡ Some GetValues → is_done reply ≡ true → numbered_command_writes command len reply ≡ LINE_VALUES_SIZE
written_by command len reply is done = ap (λ (c : Option Command). numbered_command_writes c len reply) is ∙ ap (λ (b : Bool). if b then LINE_VALUES_SIZE else 0) done

pub whole_structure : LegalRepliesTellLengths StandsFor → (asking : Asking) (answer : Option ℕ) (actor : ℕ) (before : List OneEntry) (reply : Reply) → Legal core before → asking.command.place < PLACES → IsAsking asking.command.place asking
    → reply ≡ reply_of (fold core before) actor (in_tell answer asking.command) → is_done reply ≡ true → command_of asking.command.cmd ≡ Some GetValues
    → length (bytes_of (fold core before) actor (in_tell answer asking.command)) ≡ LINE_VALUES_SIZE
whole_structure law asking answer actor before reply legal within is reply_is done get =
    law.lengths.behind_a_history before legal actor (in_tell answer asking.command) (within, is.bytes)
    ∙ written_by (command_of asking.command.cmd) asking.command.len (reply_of (fold core before) actor (in_tell answer asking.command)) get (ap (λ r. is_done r) (sym reply_is) ∙ done)

module _ (law : LegalRepliesTellLengths StandsFor) (asking : Asking) (answer : Option ℕ) (u x : View Kept Call Reply Gift) (reply : Reply) (old new : List ℕ) where
  pub gives_word : asking.command.place < PLACES → IsAsking asking.command.place asking → WasTold core asking.command.place (in_tell answer asking.command) u x reply old new → is_done reply ≡ true
      → (out rest read : List ℕ) (word : ℕ) → out ≡ new ++ rest → read ≡ take LINE_VALUES_SIZE out → word ≡ bits_in read → Ends core asking answer u x (Some word)
  gives_word within is told done out rest read word out_is read_is word_is = record {
    reply = reply;
    old = old;
    new = new;
    told = told;
    gives = (done, λ get. word_is ∙ ap (λ l. bits_in l) (read_is ∙ read_back told.second.bytes old new out rest (ap (λ l. length l) told.bytes_are ∙ whole_structure law asking answer u.number told.before reply told.legal within is told.reply_is done get) told.writes out_is));
  }

  pub gives_none : WasTold core asking.command.place (in_tell answer asking.command) u x reply old new → is_done reply ≡ false → Ends core asking answer u x None
  gives_none told not_done = record { reply = reply; old = old; new = new; told = told; gives = not_done }
