-- `book::bench_book` meets its contract: the rows hold, by computing each history.
use mathlib.Core.Path.{refl}
use Rattle.waker.specs.Waker.{queue_of}
use Rattle.channel.specs.Position.{doubled_to, mark_of, successor, unmarked}
use Rattle.array.specs.Array.{stamps_from}
use Rattle.channel.specs.Position.{length_of}
use Rattle.bounds.specs.Tests.{all_below}
use Rattle.schedule.specs.Making.{made_array, made_zero}
use Rattle.places.specs.Begin.{code_of}
use Rattle.forms.specs.FormSaved.{shape_in_form, tail_in_form, word_in_form, slot_in_form}
use Rattle.forms.specs.FormWaits.{stands_on, times_in, entry_in_form, queue_in_form}
use Rattle.schedule.specs.Form.{array_in_form, zero_in_form, slots_in_form, queues_in_form, stands_in_form, thread_in_form, threads_in_form, in_form}
use Rattle.schedule.specs.Calls.{begun, begun_in_form, stepped, stepped_in_form, advanced, advanced_in_form, taken, taken_in_form}
use Rattle.schedule.specs.History.{after}
use Rattle.book.specs.Shows.{trail}
use Rattle.book.proofs.bench_book.Goals as goal

pub returns : goal.returns
unfolding queue_of doubled_to mark_of successor unmarked stamps_from length_of all_below made_array made_zero code_of shape_in_form tail_in_form word_in_form slot_in_form stands_on times_in entry_in_form queue_in_form array_in_form zero_in_form slots_in_form queues_in_form stands_in_form thread_in_form threads_in_form in_form begun begun_in_form stepped stepped_in_form advanced advanced_in_form taken taken_in_form after trail
returns c = refl
