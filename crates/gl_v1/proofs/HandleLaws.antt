-- What a handle, a request for edges, and a configuration ask for, by their fields.
use Rattle.std.proofs.Common.{ℕ, ℤ, ◌≡◌, ◌+◌, ◌^◌, ◌<◌, List, [], ◌∷◌, ◌++◌, length, take, drop, refl, sym, ap, ◌∙◌, subst, arith, append_assoc, length-append}
use Rattle.std.proofs.lemmas.List.{take_at}
use Rattle.gl_uapi.specs.Fields.{number_at, number_bytes, overwritten, stretch, zeros}
use Rattle.gl_uapi.specs.LineConfig.{SpellsConfig}
use Rattle.gl_uapi.specs.LineValues.{SpellsValues, values_bytes}
use Rattle.gl_uapi.specs.NewRequest.{new_config, new_config_bytes}
use Rattle.gl_uapi.proofs.NewRequests.{config_spelled, length-new_config_bytes}
use Rattle.gl_uapi.proofs.Reading.{length-number_bytes, stretch-here}
use Rattle.gl_uapi.proofs.ValuesLaws.{values_spelled}
use Rattle.gl_v1.specs.declared.commands.CommandV1.TheVariants.{GetValues, SetValues, SetConfig}
use Rattle.gl_v1.specs.declared.flags.TheConstants.{EVENT_TABLE, HANDLE_TABLE}
use Rattle.gl_v1.specs.Asked.{Asks}
use Rattle.gl_v1.specs.Flags.{event_word, newer_word}
use Rattle.gl_v1.specs.Structures.{EventRequest, HandleConfig, HandleData, HandleRequest}
use Rattle.gl_v1.specs.To.{blank, event_request, handle_request, output_values, request_bytes, structure_of}
use Rattle.gl_v1.specs.Values.{bits_below, bits_from}
use Rattle.gl_v1.proofs.Asking.{asks, outputs_fit}
use Rattle.gl_v1.proofs.Bits.{bits_word}
use Rattle.gl_v1.proofs.Places.{length-stretch, stretch-at}
use Rattle.gl_v1.proofs.FlagWords.{bits_below_fits, event_word_fits, handle_word_fits}

-- a request is asked for with any fields
handle_of : (offsets consumer values : List ℕ) (flags lines : ℕ) → length offsets ≡ 256 → length consumer ≡ 32 → length values ≡ 64 → lines < 2 ^ 32
    → Asks (request_bytes offsets consumer (new_config_bytes (newer_word HANDLE_TABLE flags) (output_values lines values ∷ [])) lines)
    offsets consumer (new_config (newer_word HANDLE_TABLE flags) (output_values lines values ∷ [])) lines
handle_of offsets consumer values flags lines long named few small =
    asks offsets consumer (newer_word HANDLE_TABLE flags) (output_values lines values ∷ []) lines offsets (omega arith) named (omega arith)
    (record { flags_fit = handle_word_fits flags; attributes_fit = outputs_fit lines values (omega arith) }) small
    (stretch-at 0 256 offsets blank (omega arith) long)

pub handle_asked : (bytes offsets : List ℕ) (flags : ℕ) (values consumer : List ℕ) (lines : ℕ) (fd : ℤ)
    → HandleRequest bytes offsets flags values consumer lines fd → lines < 2 ^ 32
    → Asks (handle_request bytes) offsets consumer (new_config (newer_word HANDLE_TABLE flags) (output_values lines values ∷ [])) lines
handle_asked bytes offsets flags values consumer lines fd s small =
    let fields : request_bytes offsets consumer (new_config_bytes (newer_word HANDLE_TABLE flags) (output_values lines values ∷ [])) lines ≡ handle_request bytes =
    sym (
    ap (λ o. request_bytes o (stretch 324 32 bytes) (new_config_bytes (newer_word HANDLE_TABLE (number_at 4 256 bytes)) (output_values (number_at 4 356 bytes) (stretch 260 64 bytes) ∷ [])) (number_at 4 356 bytes)) s.offsets_stand
    ∙ ap (λ n. request_bytes offsets n (new_config_bytes (newer_word HANDLE_TABLE (number_at 4 256 bytes)) (output_values (number_at 4 356 bytes) (stretch 260 64 bytes) ∷ [])) (number_at 4 356 bytes)) s.consumer_stands
    ∙ ap (λ w. request_bytes offsets consumer (new_config_bytes (newer_word HANDLE_TABLE w) (output_values (number_at 4 356 bytes) (stretch 260 64 bytes) ∷ [])) (number_at 4 356 bytes)) s.flags_stand
    ∙ ap (λ v. request_bytes offsets consumer (new_config_bytes (newer_word HANDLE_TABLE flags) (output_values (number_at 4 356 bytes) v ∷ [])) (number_at 4 356 bytes)) s.values_stand
    ∙ ap (λ n. request_bytes offsets consumer (new_config_bytes (newer_word HANDLE_TABLE flags) (output_values n values ∷ [])) n) s.lines_stand
    ) in
    let A : List ℕ → Type 0 = λ asked. Asks asked offsets consumer (new_config (newer_word HANDLE_TABLE flags) (output_values lines values ∷ [])) lines in
    subst A fields
    (handle_of offsets consumer values flags lines
    (ap length (sym s.offsets_stand) ∙ length-stretch 0 256 bytes (omega (arith, s.size)))
    (ap length (sym s.consumer_stands) ∙ length-stretch 324 32 bytes (omega (arith, s.size)))
    (ap length (sym s.values_stand) ∙ length-stretch 260 64 bytes (omega (arith, s.size))) small)

-- one offset, and zeros behind it
rest_of_offsets : drop 4 (zeros 592) ≡ zeros 252 ++ zeros 336
unfolding zeros
rest_of_offsets = refl

long_zeros : 4 + length (zeros 252) ≡ 256
unfolding zeros
long_zeros = refl

one_offset : (offset : List ℕ) → length offset ≡ 4 → stretch 0 256 (overwritten 0 offset blank) ≡ offset ++ zeros 252
unfolding stretch
one_offset offset long =
    ap (λ n. take 256 (offset ++ drop n (zeros 592))) (let e : 0 + length offset ≡ 4 = omega (arith, long) in e)
    ∙ ap (λ rest. take 256 (offset ++ rest)) rest_of_offsets
    ∙ ap (take 256) (sym (append_assoc offset (zeros 252) (zeros 336)))
    ∙ take_at (offset ++ zeros 252) (zeros 336) 256 (length-append offset (zeros 252) ∙ ap (λ n. n + length (zeros 252)) long ∙ long_zeros)

edges_of : (offset consumer : List ℕ) (handle_flags event_flags : ℕ) → length offset ≡ 4 → length consumer ≡ 32
    → Asks (request_bytes offset consumer (new_config_bytes (event_word HANDLE_TABLE EVENT_TABLE handle_flags event_flags) []) 1)
    (offset ++ zeros 252) consumer (new_config (event_word HANDLE_TABLE EVENT_TABLE handle_flags event_flags) []) 1
edges_of offset consumer h e long named =
    asks offset consumer (event_word HANDLE_TABLE EVENT_TABLE h e) [] 1 (offset ++ zeros 252) (omega arith) named (omega arith)
    (record { flags_fit = event_word_fits h e; attributes_fit = tt }) (omega arith) (one_offset offset long)

pub edges_asked : (bytes offset : List ℕ) (handle_flags event_flags : ℕ) (consumer : List ℕ) (fd : ℤ)
    → EventRequest bytes offset handle_flags event_flags consumer fd
    → Asks (event_request bytes) (offset ++ zeros 252) consumer (new_config (event_word HANDLE_TABLE EVENT_TABLE handle_flags event_flags) []) 1
edges_asked bytes offset h e consumer fd s =
    let fields : request_bytes offset consumer (new_config_bytes (event_word HANDLE_TABLE EVENT_TABLE h e) []) 1 ≡ event_request bytes =
    sym (
    ap (λ o. request_bytes o (stretch 12 32 bytes) (new_config_bytes (event_word HANDLE_TABLE EVENT_TABLE (number_at 4 4 bytes) (number_at 4 8 bytes)) []) 1) s.offset_stands
    ∙ ap (λ n. request_bytes offset n (new_config_bytes (event_word HANDLE_TABLE EVENT_TABLE (number_at 4 4 bytes) (number_at 4 8 bytes)) []) 1) s.consumer_stands
    ∙ ap (λ w. request_bytes offset consumer (new_config_bytes (event_word HANDLE_TABLE EVENT_TABLE w (number_at 4 8 bytes)) []) 1) s.handle_flags_stand
    ∙ ap (λ w. request_bytes offset consumer (new_config_bytes (event_word HANDLE_TABLE EVENT_TABLE h w) []) 1) s.event_flags_stand
    ) in
    let A : List ℕ → Type 0 = λ asked. Asks asked (offset ++ zeros 252) consumer (new_config (event_word HANDLE_TABLE EVENT_TABLE h e) []) 1 in
    subst A fields
    (edges_of offset consumer h e
    (ap length (sym s.offset_stands) ∙ length-stretch 0 4 bytes (omega (arith, s.size)))
    (ap length (sym s.consumer_stands) ∙ length-stretch 12 32 bytes (omega (arith, s.size))))

config_of : (bytes values : List ℕ) (flags lines : ℕ) → number_at 4 0 bytes ≡ flags → stretch 4 64 bytes ≡ values → length values ≡ 64
    → SpellsConfig (stretch 0 272 (structure_of SetConfig lines bytes)) (new_config (newer_word HANDLE_TABLE flags) (output_values lines values ∷ []))
config_of bytes values flags lines word stand long =
    let config : List ℕ = new_config_bytes (newer_word HANDLE_TABLE flags) (output_values lines values ∷ []) in
    let here : stretch 0 272 (structure_of SetConfig lines bytes) ≡ config =
    stretch-here (new_config_bytes (newer_word HANDLE_TABLE (number_at 4 0 bytes)) (output_values lines (stretch 4 64 bytes) ∷ [])) (drop 272 blank) 272 (length-new_config_bytes (newer_word HANDLE_TABLE (number_at 4 0 bytes)) (output_values lines (stretch 4 64 bytes) ∷ []) (omega arith))
    ∙ ap (λ w. new_config_bytes (newer_word HANDLE_TABLE w) (output_values lines (stretch 4 64 bytes) ∷ [])) word
    ∙ ap (λ v. new_config_bytes (newer_word HANDLE_TABLE flags) (output_values lines v ∷ [])) stand in
    let S : List ℕ → Type 0 = λ asked. SpellsConfig asked (new_config (newer_word HANDLE_TABLE flags) (output_values lines values ∷ [])) in
    subst S (sym here) (config_spelled (newer_word HANDLE_TABLE flags) (output_values lines values ∷ []) (omega arith)
    (record { flags_fit = handle_word_fits flags; attributes_fit = outputs_fit lines values (omega arith) }))

pub configured_anew : (bytes : List ℕ) (flags : ℕ) (values padding : List ℕ) (lines : ℕ) → HandleConfig bytes flags values padding
    → SpellsConfig (stretch 0 272 (structure_of SetConfig lines bytes)) (new_config (newer_word HANDLE_TABLE flags) (output_values lines values ∷ []))
configured_anew bytes flags values padding lines s =
    config_of bytes values flags lines s.flags_stand s.values_stand (ap length (sym s.values_stand) ∙ length-stretch 4 64 bytes (omega (arith, s.size)))

values_here : (bits mask : ℕ) → bits < 2 ^ 64 → mask < 2 ^ 64 → SpellsValues (stretch 0 16 (values_bytes bits mask ++ drop 16 blank)) bits mask
values_here bits mask bits_fit mask_fits =
    let long : length (values_bytes bits mask) ≡ 16 = omega (arith, length-append (number_bytes 8 bits) (number_bytes 8 mask), length-number_bytes 8 bits, length-number_bytes 8 mask) in
    let S : List ℕ → Type 0 = λ asked. SpellsValues asked bits mask in
    subst S (sym (stretch-here (values_bytes bits mask) (drop 16 blank) 16 long)) (values_spelled bits mask bits_fit mask_fits)

pub values_asked : (bytes : List ℕ) (lines : ℕ) → SpellsValues (stretch 0 16 (structure_of GetValues lines bytes)) 0 (bits_below lines)
values_asked bytes lines = values_here 0 (bits_below lines) (omega arith) (bits_below_fits lines)

pub values_set : (bytes values : List ℕ) (lines : ℕ) → HandleData bytes values → SpellsValues (stretch 0 16 (structure_of SetValues lines bytes)) (bits_from 0 values) (bits_below lines)
values_set bytes values lines s =
    let long : length values ≡ 64 = ap length (sym s.values_stand) ∙ length-stretch 0 64 bytes (omega (arith, s.size)) in
    let V : List ℕ → Type 0 = λ vs. SpellsValues (stretch 0 16 (values_bytes (bits_from 0 vs) (bits_below lines) ++ drop 16 blank)) (bits_from 0 values) (bits_below lines) in
    subst V (sym s.values_stand) (values_here (bits_from 0 values) (bits_below lines) (bits_word values (omega arith)) (bits_below_fits lines))
