-- The theorem of the bench list: each row is computed from the definitions.
use Prim.Native.Nat.{◌≤◌}
use mathlib.Core.Path.{◌≡◌, refl, sym}
use mathlib.Core.Bool.{false}
use native.Mathlib.Omega.{arith}
use lib.ListN.{length}
use Rattle.octets.specs.Choice.{if_lt, if_eq}
use Rattle.octets.specs.Number.{big_at, little_at, big_bytes, little_bytes}
use Rattle.octets.specs.Over.{over, over_at}
use Rattle.octets.specs.Place.{part_of, is_outside}
use Rattle.octets.proofs.Choosing.{above}
use Rattle.packet.specs.Frame.{total, frame_of}
use Rattle.numbers.specs.Pattern.{magnitude, round_to, pattern_of}
use Rattle.numbers.specs.FixedPoint.{cut_sum, encoded, code_of, around_zero, bits_of_code}
use Rattle.numbers.specs.Gain.{gain_byte}
use Rattle.fields.specs.Addr.{addr_at, addr_bytes}
use Rattle.fields.specs.Row.{packet_of}
use Rattle.commands.specs.Decode.{command_by, command_of}
use Rattle.responses.specs.Decode.{response_of, response_by as response_kind_of}
use Rattle.processor.specs.Memory.{Memory, oversized}
use Rattle.saves.specs.Save.{save_field, shape_field, frame_field, memory_packet, word_packet, rising, end_field, blocks, fields_for, save_of}
use Rattle.streams.specs.Stream.{content_of, behind, tag_of, stream_up_to, stream_of, end_of, shape_of}
use Rattle.streams.specs.Means.{packet_means, frame_means}
use Rattle.streams.specs.Judge.{fields_mean, judged_of, checked_for}
use Rattle.saves.specs.Replay.{replay_of}
use Rattle.text.specs.Digits.{leading, decimal, hex_digits}
use Rattle.listed.specs.Listing.{pair_line, setting_line, end_line, text_for}
use Rattle.bench_list.specs.List.{BenchList, ReadsPastEnd}

sized : (m : Memory) → length m.eeprom ≡ 65536 → length m.settings ≤ 65536 → oversized m ≡ false
sized m e s = sym (above _ _ _ _ _ (omega arith) (above _ _ _ _ _ s refl))

-- of the two bytes none comes from the EEPROM
past_end_lem : ReadsPastEnd
unfolding if_lt part_of
past_end_lem d m payload out e s = rw (sized m e s, e)

pub bench-list : BenchList
unfolding if_lt if_eq big_at little_at big_bytes little_bytes over over_at part_of is_outside total frame_of magnitude round_to pattern_of cut_sum encoded code_of around_zero bits_of_code gain_byte addr_at addr_bytes packet_of command_by command_of response_of response_kind_of save_field shape_field frame_field memory_packet word_packet rising end_field blocks fields_for save_of content_of behind tag_of stream_up_to stream_of end_of shape_of packet_means frame_means fields_mean judged_of checked_for replay_of leading decimal hex_digits pair_line setting_line end_line text_for
bench-list =
    record {
      frame-empty = refl;
      frame-31 = refl;
      receipt-00 = refl;
      receipt-05-31 = refl;
      command-short = refl;
      command-read = refl;
      command-floats = refl;
      codes-one = refl;
      codes-minus-one = refl;
      codes-minus-17 = refl;
      codes-nan = refl;
      decodes-16 = refl;
      gain-6 = refl;
      reads-past-end = past_end_lem;
      response-02 = refl;
      save-worked = refl;
      listing-worked = λ out. refl;
      replay-worked = λ a b c. refl;
    }
