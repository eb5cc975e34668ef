-- The settings of the call for the list.
use Rattle.list_interface.specs.declared.Settings as call
use Rattle.text_form.specs.declared.header.Settings as text

-- the settings of the text, with the program's maxima
abbrev pub settings_of : text.Settings → call.Settings
settings_of s =
    record {
      k = s.k;
      quality = s.quality;
      asked = s.asked;
      threshold = s.threshold;
      recovery = s.recovery;
      graph = record { vertices = 128; edges = 256; nodes = 256 };
      search = record { path_edges = 128; active = 8; pushes = 128 };
    }
