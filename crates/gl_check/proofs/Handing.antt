-- What an operation hands to the entries of its call of the device, and what it takes from them.
use Rattle.std.proofs.Common.{◌≡◌, ℕ, ◌<◌, ◌^◌, Bool, true, false, List, ◌++◌, length, drop, take, Option, None, Some, refl, sym, ap, ◌∙◌, subst, arith}
use Rattle.std.specs.Prelude.{nat_lt, if◌then◌else◌}
use Rattle.std.proofs.lemmas.Bool.{false≢true, true≢false}
use Rattle.std.proofs.lemmas.List.{length-replicate}
use Rattle.gl_base.specs.declared.errno.Errno.{Errno}
use Rattle.gl_base.specs.declared.limits.TheConstants.{PLACES}
use Rattle.gl_base.specs.declared.operation.Do.{Do}
use Rattle.gl_base.specs.declared.operation.Do.TheVariants.{Probe as DoProbe, Unplug as DoUnplug, MakeDir as DoMakeDir, RemoveDir as DoRemoveDir, Write as DoWrite, Read as DoRead, Live as DoLive, Tick as DoTick, Pin as DoPin, Irq as DoIrq, Pull as DoPull, Level as DoLevel, OpenChip as DoOpenChip, Find as DoFind, Ioctl as DoIoctl, ReadFile, Poll, Close as DoClose, Plan, Accept, Aggregate}
use Rattle.gl_uapi.specs.Command.{command_of}
use Rattle.gl_uapi.specs.declared.layout.TheConstants.{LINE_REQUEST_SIZE}
use Rattle.gl_model.specs.Bounds.{HasBounds}
use Rattle.gl_model.specs.Entries.{begins, guarded_place, is_go}
use Rattle.gl_model.specs.Fits.{FitsBuffer}
use Rattle.gl_model.specs.Machine.{reply_of}
use Rattle.gl_model.specs.Parts.{in_ask, in_whole, is_driver_asked, is_poll}
use Rattle.gl_model.specs.Step.{guard_reply}
use Rattle.gl_model.specs.World.{World}
use Rattle.gl_model.specs.Written.{number_answered}
use Rattle.gl_model.specs.declared.call.Call.{Call}
use Rattle.gl_model.specs.declared.call.Call.TheVariants.{Probe, Unplug, MakeDir, RemoveDir, Write, Read, Live, Remove, Tick, Pin, Irq, Pull, Level, Interrupt, OpenChip, Find, Ioctl, ReadEdges, ReadInfo, PollLine, PollChip, Close, Refused as RefusedCall}
use Rattle.gl_model.specs.declared.call.Part.{Part}
use Rattle.gl_model.specs.declared.call.Part.TheVariants.{Whole, Ask, Tell}
use Rattle.gl_model.specs.declared.device_call.CommandIn.{CommandIn}
use Rattle.gl_model.specs.declared.device_call.DeviceCall.{DeviceCall}
use Rattle.gl_model.specs.declared.device_call.DeviceCall.TheVariants.{Once, Commanding}
use Rattle.gl_model.specs.declared.reply.Reply.{Reply}
use Rattle.gl_model.specs.declared.reply.Reply.TheVariants.{Number}
use Rattle.gl_core.specs.Device.{OneEntry}
use Rattle.gl_asking.specs.declared.kinds.Asking.{Asking}
use Rattle.gl_asking.specs.declared.kinds.Asking.TheVariants.{Calls, Plans, Accepts, Refuses}
use Rattle.gl_asking.specs.Asking.{asking, buffer_of, finds, has_lines, lives, on_file, once, polls, reads_from}
use Rattle.gl_asking.specs.Changes.{IsFilled, OpensWithin}
use Rattle.gl_asking.specs.Files.{OpenFile, file_in}
use Rattle.gl_asking.specs.Handed.{command_in, handed_in}
use Rattle.gl_asking.proofs.HandedBytes.{handed_start}
use Rattle.gl_check.specs.Buffers.{buffer_at, buffer_for}
use Rattle.gl_check.specs.One.{PlannedPort}
use Rattle.gl_check.specs.Seating.{IsAsked, IsAskedAt, IsFilledAt, NamesLines, OpensAt, OpensBefore}
use Rattle.gl_check.specs.Seats.{IsRefusedAt, SuitsFirst, SuitsStand, first_inside, is_refusal, second_of}
use Rattle.gl_check.specs.declared.stand.Stand.{Stand}
use Rattle.gl_check.specs.declared.stand.Stand.TheVariants.{Ended, Before, Between}
use Rattle.gl_check.proofs.Going.{go_by_number}
use Rattle.gl_check.proofs.Numbers.{command_number, in_form, is_a_number, is_told, lines_counted, opens_a_number, opens_a_place, small_if}

-- the buffer of an operation fits the first entry of the call that it is

abbrev pub ForCall : (DeviceCall → Type 0) → Asking → Type 0
ForCall P (Calls call) = P call
ForCall P (Plans nth) = Unit {0}
ForCall P (Accepts bits) = Unit {0}
ForCall P (Refuses errno) = Unit {0}

abbrev Handed : Do → DeviceCall → Type 0
Handed what call = FitsBuffer (first_inside call) (buffer_for what)

chosen : (what : Do) (call : DeviceCall) (errno : Errno) (b : Bool) → Handed what call → ForCall (Handed what) (if b then Calls call else Refuses errno)
chosen what call errno true handed = handed
chosen what call errno false handed = tt

read_handed : (slot len : ℕ) (file : OpenFile) (of_chip : Bool) → ForCall (Handed (ReadFile slot len)) (once (if of_chip then ReadInfo file.place file.fd len else ReadEdges file.place file.fd len))
read_handed slot len file true = length-replicate len 0
read_handed slot len file false = length-replicate len 0

read_on : (slot len : ℕ) (o : Option OpenFile) → ForCall (Handed (ReadFile slot len)) (on_file o (λ file. once (reads_from len file)))
read_on slot len None = tt
read_on slot len (Some file) = read_handed slot len file file.of_chip

poll_handed : (slot : ℕ) (file : OpenFile) (of_chip : Bool) → ForCall (Handed (Poll slot)) (once (if of_chip then PollChip file.place file.fd else PollLine file.place file.fd))
poll_handed slot file true = tt
poll_handed slot file false = tt

poll_on : (slot : ℕ) (o : Option OpenFile) → ForCall (Handed (Poll slot)) (on_file o (λ file. once (polls file)))
poll_on slot None = tt
poll_on slot (Some file) = poll_handed slot file file.of_chip

close_on : (slot : ℕ) (o : Option OpenFile) → ForCall (Handed (DoClose slot)) (on_file o (λ file. once (Close file.fd)))
close_on slot None = tt
close_on slot (Some file) = tt

find_on : (slot : ℕ) (name : List ℕ) (o : Option OpenFile) → ForCall (Handed (DoFind (Some slot) name)) (on_file o (λ file. once (Find (Some file.place) name)))
find_on slot name None = tt
find_on slot name (Some file) = tt

part_handed : (b : Bool) (c : CommandIn) (buffer : List ℕ) → (length buffer ≡ c.len) × (take LINE_REQUEST_SIZE buffer ≡ take c.len c.bytes) → FitsBuffer (if b then in_ask c else in_whole c) buffer
part_handed true c buffer fits = fits
part_handed false c buffer fits = fits

command_on : (slot cmd len : ℕ) (bytes : List ℕ) (made : ℕ) (o : Option OpenFile)
    → ForCall (Handed (DoIoctl slot cmd len bytes made)) (on_file o (λ file. Calls (Commanding (command_in file.place file.fd file.of_chip cmd (buffer_of len bytes)))))
command_on slot cmd len bytes made None = tt
command_on slot cmd len bytes made (Some file) =
    let c : CommandIn = command_in file.place file.fd file.of_chip cmd (buffer_of len bytes) in
    part_handed (is_driver_asked c.of_chip c.len (command_of c.cmd)) c (buffer_of len bytes) (refl, handed_start (buffer_of len bytes))

live_handed : (device : List ℕ) (up : Bool) → ForCall (Handed (DoLive device up)) (lives device up)
live_handed device true = tt
live_handed device false = refl

find_handed : (slot : Option ℕ) (name : List ℕ) (files : List OpenFile) → ForCall (Handed (DoFind slot name)) (finds slot name files)
find_handed None name files = tt
find_handed (Some slot) name files = find_on slot name (file_in slot files)

handed : (files : List OpenFile) (what : Do) → ForCall (Handed what) (asking files what)
handed files (DoProbe label lines) = chosen (DoProbe label lines) _ _ (has_lines lines) tt
handed files (DoUnplug place) = chosen (DoUnplug place) _ _ (nat_lt place PLACES) refl
handed files (DoMakeDir path) = tt
handed files (DoRemoveDir path) = tt
handed files (DoWrite path value) = tt
handed files (DoRead path) = tt
handed files (DoLive device up) = live_handed device up
handed files (DoTick mono real) = tt
handed files (DoPin place what) = chosen (DoPin place what) _ _ (nat_lt place PLACES) tt
handed files (DoIrq place offset what) = chosen (DoIrq place offset what) _ _ (nat_lt place PLACES) tt
handed files (DoPull place offset up) = chosen (DoPull place offset up) _ _ (nat_lt place PLACES) tt
handed files (DoLevel place offset pull) = chosen (DoLevel place offset pull) _ _ (nat_lt place PLACES) tt
handed files (DoOpenChip slot word) = tt
handed files (DoFind slot name) = find_handed slot name files
handed files (DoIoctl slot cmd len bytes made) = command_on slot cmd len bytes made (file_in slot files)
handed files (ReadFile slot len) = read_on slot len (file_in slot files)
handed files (Poll slot) = poll_on slot (file_in slot files)
handed files (DoClose slot) = close_on slot (file_in slot files)
handed files (Plan nth) = tt
handed files (Accept bits) = tt
handed files (Aggregate label slots count) = tt

first_fits : (what : Do) (first : Call) → IsAsked what first → FitsBuffer first (buffer_for what)
first_fits what first asked =
    subst (λ (c : Call). FitsBuffer c (buffer_for what)) (sym asked.first_is) (subst (λ (x : Asking). ForCall (Handed what) x) (sym asked.calls) (handed asked.files what))

-- and that of the second
second_fits : (first : Call) (port : PlannedPort) (out : List ℕ) → FitsBuffer first out → FitsBuffer (second_of first port) out
second_fits (Probe label lines kind) port out fits = tt
second_fits (Unplug place last) port out fits = tt
second_fits (MakeDir path) port out fits = tt
second_fits (RemoveDir path) port out fits = tt
second_fits (Write path value) port out fits = tt
second_fits (Read path) port out fits = tt
second_fits (Live device) port out fits = tt
second_fits (Remove device last) port out fits = tt
second_fits (Tick mono real) port out fits = tt
second_fits (Pin place what) port out fits = tt
second_fits (Irq place offset what) port out fits = tt
second_fits (Pull place offset up) port out fits = tt
second_fits (Level place offset pull) port out fits = tt
second_fits (Interrupt place offset up) port out fits = tt
second_fits (OpenChip word) port out fits = tt
second_fits (Find place name) port out fits = tt
second_fits (Ioctl place fd cmd len bytes part) port out fits = fits
second_fits (ReadEdges place fd len) port out fits = fits
second_fits (ReadInfo place fd len) port out fits = fits
second_fits (PollLine place fd) port out fits = tt
second_fits (PollChip place fd) port out fits = tt
second_fits (Close fd) port out fits = tt
second_fits (RefusedCall place poll) port out fits = tt

refused_fits : (o : Option ℕ) (poll : Bool) (e : OneEntry) (out : List ℕ) → IsRefusedAt o poll e → FitsBuffer e.call out
refused_fits None poll e out suits = absurd suits
refused_fits (Some place) poll e out suits = subst (λ (c : Call). FitsBuffer c out) (sym suits.0) tt

before_fits : (b : Bool) (first : Call) (e : OneEntry) (out : List ℕ) → FitsBuffer first out → SuitsFirst b first e → FitsBuffer e.call out
before_fits true first e out fits suits = refused_fits (guarded_place first) (is_poll (Once first)) e out suits
before_fits false first e out fits suits = subst (λ (c : Call). FitsBuffer c out) (sym suits) fits

-- the buffer fits the entry that an actor makes next
pub fits_at : (stand : Stand) (port : PlannedPort) (e : OneEntry) → IsAskedAt stand → SuitsStand stand port e → FitsBuffer e.call (buffer_at stand)
fits_at Ended port e asked suits = absurd suits
fits_at (Before what first) port e asked suits = before_fits (is_refusal e.call) first e (buffer_for what) (first_fits what first asked) suits
fits_at (Between what first) port e asked suits =
    subst (λ (c : Call). FitsBuffer c (buffer_for what)) (sym suits) (second_fits first port (buffer_for what) (first_fits what first asked.0))

-- and what is written there fills it
filled : (what : Do) (wrote : List ℕ) → IsFilled what wrote (wrote ++ drop (length wrote) (buffer_for what))
filled (DoProbe label lines) wrote = tt
filled (DoUnplug place) wrote = tt
filled (DoMakeDir path) wrote = tt
filled (DoRemoveDir path) wrote = tt
filled (DoWrite path value) wrote = tt
filled (DoRead path) wrote = tt
filled (DoLive device up) wrote = tt
filled (DoTick mono real) wrote = tt
filled (DoPin place what) wrote = tt
filled (DoIrq place offset what) wrote = tt
filled (DoPull place offset up) wrote = tt
filled (DoLevel place offset pull) wrote = tt
filled (DoOpenChip slot word) wrote = tt
filled (DoFind slot name) wrote = tt
filled (DoIoctl slot cmd len bytes made) wrote = refl
filled (ReadFile slot len) wrote = refl
filled (Poll slot) wrote = tt
filled (DoClose slot) wrote = tt
filled (Plan nth) wrote = tt
filled (Accept bits) wrote = tt
filled (Aggregate label slots count) wrote = tt

pub filled_at : (stand : Stand) (wrote buffer old : List ℕ) → old ≡ buffer_at stand → buffer ≡ wrote ++ drop (length wrote) old → IsFilledAt stand wrote buffer
filled_at Ended wrote buffer old was is = tt
filled_at (Before what first) wrote buffer old was is =
    subst (λ (b : List ℕ). IsFilled what wrote b) (ap (λ (o : List ℕ). wrote ++ drop (length wrote) o) (sym was) ∙ sym is) (filled what wrote)
filled_at (Between what first) wrote buffer old was is =
    subst (λ (b : List ℕ). IsFilled what wrote b) (ap (λ (o : List ℕ). wrote ++ drop (length wrote) o) (sym was) ∙ sym is) (filled what wrote)

-- A reply without a number opens nothing.
pub opens_nothing : (what : Do) (reply : Reply) → number_answered reply < 2 ^ 32 → ((n : ℕ) → reply ≡ Number n → ⊥) → OpensWithin what reply
opens_nothing (DoOpenChip slot word) reply small none = (small, λ fd e. absurd (none fd e))
opens_nothing (DoIoctl slot cmd len bytes made) reply small none = (small, λ is fd e. absurd (none fd e))
opens_nothing (DoProbe label lines) reply small none = tt
opens_nothing (DoUnplug place) reply small none = tt
opens_nothing (DoMakeDir path) reply small none = tt
opens_nothing (DoRemoveDir path) reply small none = tt
opens_nothing (DoWrite path value) reply small none = tt
opens_nothing (DoRead path) reply small none = tt
opens_nothing (DoLive device up) reply small none = tt
opens_nothing (DoTick mono real) reply small none = tt
opens_nothing (DoPin place what) reply small none = tt
opens_nothing (DoIrq place offset what) reply small none = tt
opens_nothing (DoPull place offset up) reply small none = tt
opens_nothing (DoLevel place offset pull) reply small none = tt
opens_nothing (DoFind slot name) reply small none = tt
opens_nothing (ReadFile slot len) reply small none = tt
opens_nothing (Poll slot) reply small none = tt
opens_nothing (DoClose slot) reply small none = tt
opens_nothing (Plan nth) reply small none = tt
opens_nothing (Accept bits) reply small none = tt
opens_nothing (Aggregate label slots count) reply small none = tt

guard_small : (poll : Bool) → number_answered (guard_reply poll) < 2 ^ 32
guard_small true = omega arith
guard_small false = omega arith

guard_no_number : (poll : Bool) (n : ℕ) → guard_reply poll ≡ Number n → ⊥
guard_no_number true n e = true≢false (sym (ap is_a_number e))
guard_no_number false n e = true≢false (sym (ap is_a_number e))

refused_opens : (o : Option ℕ) (poll : Bool) (what : Do) (first : Call) (e : OneEntry) → IsRefusedAt o poll e → OpensBefore (begins e.call e.reply) what first e
refused_opens None poll what first e suits = absurd suits
refused_opens (Some place) poll what first e suits =
    subst (λ (b : Bool). OpensBefore b what first e) (sym (ap (λ (c : Call). begins c e.reply) suits.0))
    (opens_nothing what e.reply (subst (λ (r : Reply). number_answered r < 2 ^ 32) (sym suits.1) (guard_small poll)) (λ n is. guard_no_number poll n (sym suits.1 ∙ is)))

-- the first entry of a command
record OfCommand (cmd : ℕ) (bytes : List ℕ) (first : Call) : Type 0 where
  pub place : ℕ
  pub fd : ℕ
  pub len : ℕ
  pub part : Part
  pub is : first ≡ Ioctl place fd cmd len bytes part
  pub untold : is_told part ≡ false

part_of : (b : Bool) (c : CommandIn) (first : Call) → first ≡ (if b then in_ask c else in_whole c) → OfCommand c.cmd c.bytes first
part_of true c first is = record { place = c.place; fd = c.fd; len = c.len; part = Ask; is = is; untold = refl }
part_of false c first is = record { place = c.place; fd = c.fd; len = c.len; part = Whole; is = is; untold = refl }

by_file : (cmd : ℕ) (buffer : List ℕ) (first : Call) (call : DeviceCall) (o : Option OpenFile) → Calls call ≡ on_file o (λ file. Calls (Commanding (command_in file.place file.fd file.of_chip cmd buffer)))
    → first ≡ first_inside call → OfCommand cmd (handed_in buffer) first
by_file cmd buffer first call None is first_is = cc
by_file cmd buffer first call (Some file) is first_is =
    let c : CommandIn = command_in file.place file.fd file.of_chip cmd buffer in
    let same : call ≡ Commanding c = cc in
    part_of (is_driver_asked c.of_chip c.len (command_of c.cmd)) c first (first_is ∙ ap first_inside same)

of_command : (slot cmd len : ℕ) (bytes : List ℕ) (made : ℕ) (first : Call) → IsAsked (DoIoctl slot cmd len bytes made) first → OfCommand cmd (handed_in (buffer_of len bytes)) first
of_command slot cmd len bytes made first asked = by_file cmd (buffer_of len bytes) first asked.call (file_in slot asked.files) asked.calls asked.first_is

of_open : (slot : ℕ) (word : List ℕ) (first : Call) → IsAsked (DoOpenChip slot word) first → first ≡ OpenChip word
of_open slot word first asked = let same : asked.call ≡ Once (OpenChip word) = (let e = asked.calls in cc) in asked.first_is ∙ ap first_inside same

-- what begins a command is its ask, answered Go
begins_command : (place fd cmd len : ℕ) (bytes : List ℕ) (part : Part) (reply : Reply) → begins (Ioctl place fd cmd len bytes part) reply ≡ true → (part ≡ Ask) × (is_go reply ≡ true)
begins_command place fd cmd len bytes Whole reply is = absurd (false≢true is)
begins_command place fd cmd len bytes Ask reply is = (refl, is)
begins_command place fd cmd len bytes (Tell answer) reply is = absurd (false≢true is)

module _ (w : World) (bounds : HasBounds w) (e : OneEntry) (replied : e.reply ≡ reply_of w e.actor e.call) where
  replied_to : (call : Call) → e.call ≡ call → e.reply ≡ reply_of w e.actor call
  replied_to call is = replied ∙ ap (λ (c : Call). reply_of w e.actor c) is

  opened_within : (slot : ℕ) (word : List ℕ) → e.call ≡ OpenChip word → OpensWithin (DoOpenChip slot word) e.reply
  opened_within slot word is =
      let told = replied_to (OpenChip word) is in
      (subst (λ (r : Reply). number_answered r < 2 ^ 32) (sym told) (opens_a_number w e.actor word), λ fd number. opens_a_place w e.actor word fd bounds (sym told ∙ number))

  command_small : (place fd cmd len : ℕ) (bytes : List ℕ) (part : Part) → e.call ≡ Ioctl place fd cmd len bytes part → number_answered e.reply < 2 ^ 32
  command_small place fd cmd len bytes part is = small_if e.reply (λ n number. command_number w bounds e.actor place fd cmd len bytes part n (sym (replied_to (Ioctl place fd cmd len bytes part) is) ∙ number))

  -- the ask of a request went on
  names_lines : (slot cmd len : ℕ) (bytes : List ℕ) (made place fd had : ℕ) (part : Part) → e.call ≡ Ioctl place fd cmd had (handed_in (buffer_of len bytes)) part → begins e.call e.reply ≡ true
      → NamesLines (DoIoctl slot cmd len bytes made)
  names_lines slot cmd len bytes made place fd had part is begun = λ get_line.
      let handed : List ℕ = handed_in (buffer_of len bytes) in
      let asks = begins_command place fd cmd had handed part e.reply (ap (λ (c : Call). begins c e.reply) (sym is) ∙ begun) in
      let call : e.call ≡ Ioctl place fd cmd had handed Ask = is ∙ ap (λ (p : Part). Ioctl place fd cmd had handed p) asks.0 in
      lines_counted (take LINE_REQUEST_SIZE handed) (go_by_number w e.actor place fd had handed (command_of cmd) (ap command_of get_line)
      (ap (λ (r : Reply). is_go r) (sym (replied_to (Ioctl place fd cmd had handed Ask) call)) ∙ asks.1))

  -- else no number was told
  command_opens : (slot cmd len : ℕ) (bytes : List ℕ) (made place fd had : ℕ) (part : Part) → e.call ≡ Ioctl place fd cmd had (handed_in (buffer_of len bytes)) part → is_told part ≡ false
      → OpensWithin (DoIoctl slot cmd len bytes made) e.reply
  command_opens slot cmd len bytes made place fd had part is untold =
      let handed : List ℕ = handed_in (buffer_of len bytes) in (
        command_small place fd cmd had handed part is,
        λ get_line number told. absurd (false≢true (sym untold ∙ (in_form w e.actor place fd cmd had handed part number (sym (replied_to (Ioctl place fd cmd had handed part) is) ∙ told)).1)),
      )

  by_begins : (b : Bool) (what : Do) (first : Call) → (b ≡ true → NamesLines what) → OpensWithin what e.reply → OpensBefore b what first e
  by_begins true what first names opens = names refl
  by_begins false what first names opens = opens

  first_opens : (what : Do) (first : Call) → IsAsked what first → e.call ≡ first → OpensBefore (begins e.call e.reply) what first e
  first_opens (DoOpenChip slot word) first asked is =
      by_begins (begins e.call e.reply) (DoOpenChip slot word) first (λ _. tt) (opened_within slot word (is ∙ of_open slot word first asked))
  first_opens (DoIoctl slot cmd len bytes made) first asked is =
      let of = of_command slot cmd len bytes made first asked in
      by_begins (begins e.call e.reply) (DoIoctl slot cmd len bytes made) first (names_lines slot cmd len bytes made of.place of.fd of.len of.part (is ∙ of.is))
      (command_opens slot cmd len bytes made of.place of.fd of.len of.part (is ∙ of.is) of.untold)
  first_opens (DoProbe label lines) first asked is = by_begins (begins e.call e.reply) (DoProbe label lines) first (λ _. tt) tt
  first_opens (DoUnplug place) first asked is = by_begins (begins e.call e.reply) (DoUnplug place) first (λ _. tt) tt
  first_opens (DoMakeDir path) first asked is = by_begins (begins e.call e.reply) (DoMakeDir path) first (λ _. tt) tt
  first_opens (DoRemoveDir path) first asked is = by_begins (begins e.call e.reply) (DoRemoveDir path) first (λ _. tt) tt
  first_opens (DoWrite path value) first asked is = by_begins (begins e.call e.reply) (DoWrite path value) first (λ _. tt) tt
  first_opens (DoRead path) first asked is = by_begins (begins e.call e.reply) (DoRead path) first (λ _. tt) tt
  first_opens (DoLive device up) first asked is = by_begins (begins e.call e.reply) (DoLive device up) first (λ _. tt) tt
  first_opens (DoTick mono real) first asked is = by_begins (begins e.call e.reply) (DoTick mono real) first (λ _. tt) tt
  first_opens (DoPin place what) first asked is = by_begins (begins e.call e.reply) (DoPin place what) first (λ _. tt) tt
  first_opens (DoIrq place offset what) first asked is = by_begins (begins e.call e.reply) (DoIrq place offset what) first (λ _. tt) tt
  first_opens (DoPull place offset up) first asked is = by_begins (begins e.call e.reply) (DoPull place offset up) first (λ _. tt) tt
  first_opens (DoLevel place offset pull) first asked is = by_begins (begins e.call e.reply) (DoLevel place offset pull) first (λ _. tt) tt
  first_opens (DoFind slot name) first asked is = by_begins (begins e.call e.reply) (DoFind slot name) first (λ _. tt) tt
  first_opens (ReadFile slot len) first asked is = by_begins (begins e.call e.reply) (ReadFile slot len) first (λ _. tt) tt
  first_opens (Poll slot) first asked is = by_begins (begins e.call e.reply) (Poll slot) first (λ _. tt) tt
  first_opens (DoClose slot) first asked is = by_begins (begins e.call e.reply) (DoClose slot) first (λ _. tt) tt
  first_opens (Plan nth) first asked is = by_begins (begins e.call e.reply) (Plan nth) first (λ _. tt) tt
  first_opens (Accept bits) first asked is = by_begins (begins e.call e.reply) (Accept bits) first (λ _. tt) tt
  first_opens (Aggregate label slots count) first asked is = by_begins (begins e.call e.reply) (Aggregate label slots count) first (λ _. tt) tt

  before_opens : (b : Bool) (what : Do) (first : Call) → IsAsked what first → SuitsFirst b first e → OpensBefore (begins e.call e.reply) what first e
  before_opens true what first asked suits = refused_opens (guarded_place first) (is_poll (Once first)) what first e suits
  before_opens false what first asked suits = first_opens what first asked suits

  between_opens : (what : Do) (first : Call) (port : PlannedPort) → IsAsked what first → NamesLines what → e.call ≡ second_of first port → OpensWithin what e.reply
  between_opens (DoOpenChip slot word) first port asked names is = opened_within slot word (is ∙ ap (λ (c : Call). second_of c port) (of_open slot word first asked))
  between_opens (DoIoctl slot cmd len bytes made) first port asked names is =
      let of = of_command slot cmd len bytes made first asked in
      let call = is ∙ ap (λ (c : Call). second_of c port) of.is in
      (command_small of.place of.fd cmd of.len (handed_in (buffer_of len bytes)) _ call, λ get_line number told. names get_line)
  between_opens (DoProbe label lines) first port asked names is = tt
  between_opens (DoUnplug place) first port asked names is = tt
  between_opens (DoMakeDir path) first port asked names is = tt
  between_opens (DoRemoveDir path) first port asked names is = tt
  between_opens (DoWrite path value) first port asked names is = tt
  between_opens (DoRead path) first port asked names is = tt
  between_opens (DoLive device up) first port asked names is = tt
  between_opens (DoTick mono real) first port asked names is = tt
  between_opens (DoPin place what) first port asked names is = tt
  between_opens (DoIrq place offset what) first port asked names is = tt
  between_opens (DoPull place offset up) first port asked names is = tt
  between_opens (DoLevel place offset pull) first port asked names is = tt
  between_opens (DoFind slot name) first port asked names is = tt
  between_opens (ReadFile slot len) first port asked names is = tt
  between_opens (Poll slot) first port asked names is = tt
  between_opens (DoClose slot) first port asked names is = tt
  between_opens (Plan nth) first port asked names is = tt
  between_opens (Accept bits) first port asked names is = tt
  between_opens (Aggregate label slots count) first port asked names is = tt

  -- an entry that suits an actor and that the machine answered so opens files as replies do
  pub opens_at : (stand : Stand) (port : PlannedPort) → IsAskedAt stand → SuitsStand stand port e → OpensAt stand e
  opens_at Ended port asked suits = tt
  opens_at (Before what first) port asked suits = before_opens (is_refusal e.call) what first asked suits
  opens_at (Between what first) port asked suits = between_opens what first port asked.0 asked.1 suits
