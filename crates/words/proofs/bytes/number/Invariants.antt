use Rattle.std.proofs.Common.{◌≡◌, ◌^◌, ◌<◌, drop}
use Rattle.words.specs.Bytes.{all_digits, value, value_after}
use Rattle.words.proofs.bytes.number.Given as goal

abbrev pub invariant-loop-b : goal.invariant-loop-b
invariant-loop-b l =
    record {
      digits : all_digits (drop l.b-index l.bytes) ≡ all_digits l.bytes;
      so_far : value_after l.value (drop l.b-index l.bytes) ≡ value l.bytes;
      small : l.value < 10 ^ l.b-index;
    }
